-- What the paths of ACN lead to. These rules are this profile's own.
use Rattle.std.specs.Prelude.{ℕ, suc, Bool, true, false, List, [], ◌∷◌, ◌++◌, map, find, filter_map, Option, Some, None, option_map, option_and_then, is_some, if◌then◌else◌}
use Rattle.std.specs.List.{enumerate_from}
use Rattle.std.specs.Option.{option_or}
use Rattle.std.specs.Str.{bytes_eq}
use Rattle.acn_num.specs.Names.{Name}
use Rattle.acn_asn_syntax.specs.Mirror.{AsnBase, AsnType, Component, component_list, type_of, boolean, null, integer, enumerated, sequence, no_constraints}
use Rattle.acn_asn_syntax.specs.declared.types.Rest.{Rest}
use Rattle.acn_asn_syntax.specs.declared.types.Rest.TheVariants as rest
use Rattle.acn_acn_syntax.specs.Mirror as acn
use Rattle.acn_acn_syntax.specs.Mirror.{braces_list}
use Rattle.acn_acn_syntax.specs.declared.modules.AcnPath.{AcnPath}
use Rattle.acn_acn_syntax.specs.declared.modules.Attr.{Attr}
use Rattle.acn_acn_syntax.specs.declared.modules.FieldKind.{FieldKind}
use Rattle.acn_acn_syntax.specs.declared.modules.FieldKind.TheVariants as kind
use Rattle.acn_index.specs.World.{World}
use Rattle.acn_slots.specs.declared.slots.Sort.{Sort}
use Rattle.acn_slots.specs.declared.slots.Sort.TheVariants as sort
use Rattle.acn_slots.specs.declared.slots.Slot.{Slot}
use Rattle.acn_slots.specs.declared.slots.Lead.{Lead}
use Rattle.acn_slots.specs.declared.slots.Lead.TheVariants as lead
use Rattle.acn_index.specs.Lookup.{EntryAt, type_named}
use Rattle.acn_index.specs.Chains.{ChainOf, base_part, written, assigned_link, chain_of}

abbrev pub default_of : {A : Type 0} → Option A → A → A
default_of None d = d
default_of (Some x) d = x

-- ---- what is written at a use of a type: its arguments, its bracket and its braces

pub record Use : Type 0 where
  pub arguments : List AcnPath
  pub attributes : List Attr
  pub braces : Option (List acn.Field)

abbrev pub no_use : Use
no_use = record { arguments = []; attributes = []; braces = None }

-- a field of braces as a use; the other forms are none
abbrev pub use_of : acn.Field → Option Use
use_of (acn.plain name arguments attributes bs) = Some (record { arguments = arguments; attributes = attributes; braces = braces_list bs })
use_of (acn.inserted name kind attributes) = None
use_of (acn.number name n) = None

-- ---- the fields of a SEQUENCE

-- a component with what is written at its use, or a field that only the packet has
pub data Field : Type 0 where
  component : Component → Use → Field
  extra : Name → FieldKind → (attributes : List Attr) → Field

abbrev pub name_in_text : acn.Field → Name
name_in_text (acn.plain name arguments attributes bs) = name
name_in_text (acn.inserted name kind attributes) = name
name_in_text (acn.number name n) = name

abbrev pub component_named : List Component → Name → Option Component
component_named cs name = find (λ (c : Component). bytes_eq c.name name) cs

-- the field of a SEQUENCE with these components for which a field between its braces stands
abbrev pub field_in : List Component → acn.Field → Option Field
field_in cs (acn.plain name arguments attributes bs) = option_map (λ (c : Component). component c (record { arguments = arguments; attributes = attributes; braces = braces_list bs })) (component_named cs name)
field_in cs (acn.inserted name kind attributes) = Some (extra name kind attributes)
field_in cs (acn.number name n) = None

abbrev pub numbered_field : List Component → ℕ × acn.Field → Option (ℕ × Field)
numbered_field cs f = option_map (λ (x : Field). (f.0, x)) (field_in cs f.1)

abbrev pub bare_field : ℕ × Component → ℕ × Field
bare_field c = (c.0, component c.1 no_use)

-- The fields in the order of the packet, each with its number: those between the braces, and else the components.
abbrev pub fields_of : Option (List acn.Field) → List Component → List (ℕ × Field)
fields_of None cs = map bare_field (enumerate_from 0 cs)
fields_of (Some fs) cs = filter_map (numbered_field cs) (enumerate_from 0 fs)

-- the one with a name
abbrev pub field_named : Option (List acn.Field) → List Component → Name → Option (ℕ × Field)
field_named None cs name = option_map bare_field (find (λ (c : ℕ × Component). bytes_eq c.1.name name) (enumerate_from 0 cs))
field_named (Some fs) cs name = option_and_then (numbered_field cs) (find (λ (f : ℕ × acn.Field). bytes_eq (name_in_text f.1) name) (enumerate_from 0 fs))

-- ---- the chain of an inserted field or of a parameter

abbrev pub plain_type : AsnBase → AsnType
plain_type b = type_of None b no_constraints

-- the chain of the assigned type to which a reference in a module leads
abbrev pub named_chain : World → ℕ → Name → Option ChainOf
named_chain w k name = option_map (chain_of w) (option_and_then (assigned_link w) (type_named w k None name))

-- In a sound world each reference leads somewhere; here one that does not would stand for a NULL.
abbrev pub kind_chain : World → ℕ → FieldKind → ChainOf
kind_chain w k kind.Integer = chain_of w (written k (plain_type (integer None)))
kind_chain w k kind.Boolean = chain_of w (written k (plain_type boolean))
kind_chain w k kind.Null = chain_of w (written k (plain_type null))
kind_chain w k (kind.Ref name) = default_of (named_chain w k name) (chain_of w (written k (plain_type null)))

-- ---- slots

-- the numbers that a determinant has, where it has some
abbrev pub sort_of_base : AsnBase → Option Sort
sort_of_base (integer ns) = Some sort.Integer
sort_of_base boolean = Some sort.Boolean
sort_of_base (enumerated items) = Some sort.Enumerated
sort_of_base _ = None

abbrev pub sort_of : ChainOf → Option Sort
sort_of c = sort_of_base (base_part c.base)

-- a determinant, by the path of its field's node
abbrev pub slot_at : List ℕ → Option Sort → Option Slot
slot_at path sort = option_map (λ s. record { path = path; sort = s }) sort

-- ---- where braces and brackets stand

-- at the use itself, or at an entry along the chain
pub data Origin : Type 0 where
  at_use : Origin
  at_entry : EntryAt → Origin

abbrev pub has_braces : EntryAt → Bool
has_braces e = is_some (braces_list e.is.fields)

-- the outermost of these entries that has braces, where they go from the base outward
abbrev pub entry_with_braces : List EntryAt → Option Origin
entry_with_braces [] = None
entry_with_braces (e ∷ es) = option_or (entry_with_braces es) (if has_braces e then Some (at_entry e) else None)

-- The braces of a type are those of its use, and where this has none those of the first entry that has them, from the
-- outermost to the base.
abbrev pub braces_origin : ChainOf → Use → Option Origin
braces_origin c u = if is_some u.braces then Some at_use else entry_with_braces c.entries

abbrev pub braces_at : Use → Option Origin → Option (List acn.Field)
braces_at u None = None
braces_at u (Some at_use) = u.braces
braces_at u (Some (at_entry e)) = braces_list e.is.fields

-- the module in which the references of braces are read
abbrev pub braces_module : ℕ → Option Origin → ℕ
braces_module k None = k
braces_module k (Some at_use) = k
braces_module k (Some (at_entry e)) = e.owner

-- ---- SEQUENCEs that are entered

-- Its components and the module in whose text these stand; its braces and the module in which their references are read; and the
-- path of its node.
pub record Frame : Type 0 where
  pub owner : ℕ
  pub components : List Component
  pub braces : Option (List acn.Field)
  pub reader : ℕ
  pub path : List ℕ

-- the components of a SEQUENCE
abbrev pub components_in : AsnBase → Option (List Component)
components_in (sequence cs) = Some (component_list cs)
components_in _ = None

abbrev pub frame_with : ChainOf → Use → Option Origin → ℕ → List ℕ → List Component → Frame
frame_with c u from k path cs = record { owner = c.owner; components = cs; braces = braces_at u from; reader = braces_module k from; path = path }

-- a SEQUENCE that is used so in the text of a module with a number, where it is one
abbrev pub frame_of : ChainOf → Use → ℕ → List ℕ → Option Frame
frame_of c u k path = option_map (frame_with c u (braces_origin c u) k path) (components_in (base_part c.base))

-- what a path can begin with: the fields of the SEQUENCEs around, the innermost first, and the parameters that are bound
pub record Scope : Type 0 where
  pub frames : List Frame
  pub bound : List (Name × Slot)

abbrev pub no_scope : Scope
no_scope = record { frames = []; bound = [] }

-- ---- following names

-- A field on a path: whether it may be absent, its slot where it has a number of its own, and what is inside it where it is a SEQUENCE.
pub record Step : Type 0 where
  pub optional : Bool
  pub slot : Option Slot
  pub inside : Option Frame

abbrev pub is_optional : Rest → Bool
is_optional rest.Required = false
is_optional rest.Optional = true
is_optional (rest.Default v) = true

abbrev pub component_step : ChainOf → Frame → ℕ → Rest → Use → Step
component_step c f i r u = record { optional = is_optional r; slot = slot_at (f.path ++ i ∷ []) (sort_of c); inside = frame_of c u f.reader (f.path ++ i ∷ []) }

abbrev pub extra_step : ChainOf → Frame → ℕ → Step
extra_step c f i = record { optional = false; slot = slot_at (f.path ++ i ∷ []) (sort_of c); inside = None }

abbrev pub field_step : World → Frame → ℕ × Field → Step
field_step w f (i, component c u) = component_step (chain_of w (written f.owner c.of)) f i c.rest u
field_step w f (i, extra name kind attributes) = extra_step (kind_chain w f.reader kind) f i

unfoldable pub step_at : World → Frame → Name → Option Step
step_at w f name = option_map (field_step w f) (field_named f.braces f.components name)

abbrev pub step_in : World → Option Frame → Name → Option Step
step_in w inside name = option_and_then (λ f. step_at w f name) inside

-- the fields to which the names lead, one behind the other, each inside the one before
abbrev pub follow : World → Option Frame → List Name → Option (List Step)
follow w inside [] = Some []
follow w inside (name ∷ names) = option_and_then (λ (s : Step). option_map (λ more. s ∷ more) (follow w s.inside names)) (step_in w inside name)

abbrev pub last_slot : Option Slot → List Step → Option Slot
last_slot slot [] = slot
last_slot slot (s ∷ steps) = last_slot s.slot steps

abbrev pub up_to_absent : List Step → Option ℕ
up_to_absent [] = None
up_to_absent (s ∷ steps) = if s.optional then Some 1 else option_map suc (up_to_absent steps)

abbrev pub unless_absent : Slot → Option ℕ → Lead
unless_absent slot None = lead.Slot slot
unless_absent slot (Some through) = lead.Absent through slot.sort

abbrev pub lead_to : Option Slot → Option ℕ → Lead
lead_to None through = lead.Nowhere
lead_to (Some slot) through = unless_absent slot through

abbrev pub lead_of : Option (List Step) → Lead
lead_of None = lead.Nowhere
lead_of (Some steps) = lead_to (last_slot None steps) (up_to_absent steps)

abbrev pub bound_slot : List (Name × Slot) → Name → Option Slot
bound_slot bound name = option_map (λ (p : Name × Slot). p.1) (find (λ (p : Name × Slot). bytes_eq p.0 name) bound)

-- a parameter is one name alone
abbrev pub by_parameter : List (Name × Slot) → Name → List Name → Lead
by_parameter bound name [] = lead_to (bound_slot bound name) None
by_parameter bound name (next ∷ names) = lead.Nowhere

abbrev pub has_field : Name → Frame → Bool
has_field name f = is_some (field_named f.braces f.components name)

abbrev pub by_frame : World → List (Name × Slot) → Name → List Name → Option Frame → Lead
by_frame w bound name names None = by_parameter bound name names
by_frame w bound name names (Some f) = lead_of (follow w (Some f) (name ∷ names))

-- The first name is looked up in the innermost SEQUENCE that has it, then among the parameters.
unfoldable pub leads : World → Scope → List Name → Lead
leads w s [] = lead.Nowhere
leads w s (name ∷ names) = by_frame w s.bound name names (find (has_field name) s.frames)

-- how many names lead up to the first field that may be absent, when one field more is passed
abbrev pub first_absent : Option ℕ → ℕ → Bool → Option ℕ
first_absent (Some through) passed optional = Some through
first_absent None passed optional = if optional then Some (suc passed) else None
