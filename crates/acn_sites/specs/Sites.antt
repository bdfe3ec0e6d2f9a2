-- The sites of a type: the nodes that are to be made for it, in preorder. These rules are this profile's own.
use Rattle.std.specs.Prelude.{ℕ, zero, suc, Bool, List, [], ◌∷◌, ◌++◌, map, flat_map, filter_map, find, Option, Some, None, option_map, option_and_then, option_to_list, if◌then◌else◌, codes}
use Rattle.std.specs.List.{enumerate_from, list_any, zip}
use Rattle.std.specs.Option.{option_or}
use Rattle.std.specs.Str.{bytes_eq}
use Rattle.acn_num.specs.Names.{Name}
use Rattle.acn_asn_syntax.specs.Mirror.{AsnBase, AsnType, Component, component_list, Alternative, alternative_list, Constraint, containing, sequence, sequence_of, sequence_size, choice, octet_string}
use Rattle.acn_asn_syntax.specs.declared.types.Rest.{Rest}
use Rattle.acn_acn_syntax.specs.Mirror as acn
use Rattle.acn_acn_syntax.specs.declared.modules.AcnPath.{AcnPath}
use Rattle.acn_acn_syntax.specs.declared.modules.FieldKind.{FieldKind}
use Rattle.acn_acn_syntax.specs.declared.modules.Param.{Param}
use Rattle.acn_index.specs.World.{World}
use Rattle.acn_index.specs.Lookup.{EntryAt}
use Rattle.acn_index.specs.Chains.{ChainOf, base_part, written, assigned_link, chain_of, gives_parameters}
use Rattle.acn_world.specs.Faults.{module_name_at, name_at}
use Rattle.acn_index.specs.declared.sources.TypeId.{TypeId}
use Rattle.acn_slots.specs.declared.slots.Slot.{Slot}
use Rattle.acn_slots.specs.declared.slots.Lead.{Lead}
use Rattle.acn_slots.specs.declared.slots.Lead.TheVariants as lead
use Rattle.acn_sites.specs.Places.{Place, entry_place, field_place}
use Rattle.acn_slots.specs.Slots.{default_of, Use, no_use, use_of, Field, component, extra, name_in_text, fields_of, kind_chain, Origin, at_use, at_entry, braces_origin, braces_at, braces_module, Frame, Scope, no_scope, leads}

-- what a node is in the node above it
pub data Position : Type 0 where
  root : (owner name : Name) → Position
  part : (name : Name) → Rest → Position
  inserted : (name : Name) → FieldKind → Position
  alternative : (name : Name) → Position
  element : Position
  content : Position

-- A node that is to be made: what it is in the node above it; the chain of its type; what is written at its use, the place of that
-- in the text, the module in which the references there are read and the scope in which the paths there are; and the path of the node.
pub record Site : Type 0 where
  pub position : Position
  pub chain : ChainOf
  pub used : Use
  pub at : Place
  pub reader : ℕ
  pub scope : Scope
  pub path : List ℕ

abbrev pub base_of : Site → AsnBase
base_of s = base_part s.chain.base

-- ---- parameters and arguments

abbrev pub has_parameters : ChainOf → Bool
has_parameters c = list_any gives_parameters c.entries

-- where the arguments lead, by the scope of the use
abbrev pub argument_leads : World → Site → List Lead
argument_leads w s = map (λ (a : AcnPath). leads w s.scope a.names) s.used.arguments

abbrev pub bind : Param × Lead → Option (Name × Slot)
bind (p, lead.Slot slot) = Some (p.name, slot)
bind (p, lead.Nowhere) = None
bind (p, lead.Absent through x) = None

-- The scope of an entry: its parameters, bound in order to what the arguments lead to.
abbrev pub entry_scope : World → Site → EntryAt → Scope
entry_scope w s e = record { frames = []; bound = filter_map bind (zip e.is.parameters (argument_leads w s)) }

-- ---- where something written stands, and how it is read there

abbrev pub origin_place : Site → Origin → Place
origin_place s at_use = s.at
origin_place s (at_entry e) = entry_place e

abbrev pub origin_scope : World → Site → Origin → Scope
origin_scope w s at_use = s.scope
origin_scope w s (at_entry e) = entry_scope w s e

abbrev pub braces_place : Site → Option Origin → Place
braces_place s None = []
braces_place s (Some from) = origin_place s from

abbrev pub braces_scope : World → Site → Option Origin → Scope
braces_scope w s None = no_scope
braces_scope w s (Some from) = origin_scope w s from

-- ---- the sites below

-- What the sites below a site share: the module in whose text their types stand; the braces in which their uses stand, with the place
-- of these, the module and the scope in which they are read; and the path of the node above.
pub record Below : Type 0 where
  pub owner : ℕ
  pub braces : Option (List acn.Field)
  pub at : Place
  pub reader : ℕ
  pub scope : Scope
  pub path : List ℕ

abbrev pub below_from : World → Site → Option Origin → Below
below_from w s from = record { owner = s.chain.owner; braces = braces_at s.used from; at = braces_place s from; reader = braces_module s.reader from; scope = braces_scope w s from; path = s.path }

abbrev pub below : World → Site → Below
below w s = below_from w s (braces_origin s.chain s.used)

-- one SEQUENCE more is entered
abbrev pub entered : Frame → Scope → Scope
entered f c = record { frames = f ∷ c.frames; bound = c.bound }

abbrev pub frame_in : List Component → Below → Frame
frame_in cs b = record { owner = b.owner; components = cs; braces = b.braces; reader = b.reader; path = b.path }

-- the fields of a SEQUENCE see each other
abbrev pub in_sequence : List Component → Below → Below
in_sequence cs b = record { owner = b.owner; braces = b.braces; at = b.at; reader = b.reader; scope = entered (frame_in cs b) b.scope; path = b.path }

abbrev pub site_below : Below → ℕ → Position → ChainOf → Use → Site
site_below b i position c u = record { position = position; chain = c; used = u; at = field_place b.at i; reader = b.reader; scope = b.scope; path = b.path ++ i ∷ [] }

abbrev pub field_site : World → Below → ℕ × Field → Site
field_site w b (i, component c u) = site_below b i (part c.name c.rest) (chain_of w (written b.owner c.of)) u
field_site w b (i, extra name kind attributes) = site_below b i (inserted name kind) (kind_chain w b.reader kind) (record { arguments = []; attributes = attributes; braces = None })

abbrev pub sequence_sites : World → List Component → Below → List Site
sequence_sites w cs b = map (field_site w b) (fields_of b.braces cs)

-- the use of an alternative is the field of its name
abbrev pub use_named : Option (List acn.Field) → Name → Use
use_named None name = no_use
use_named (Some fs) name = default_of (option_and_then use_of (find (λ f. bytes_eq (name_in_text f) name) fs)) no_use

abbrev pub alternative_site : World → Below → ℕ × Alternative → Site
alternative_site w b (i, a) = site_below b i (alternative a.name) (chain_of w (written b.owner a.of)) (use_named b.braces a.name)

abbrev pub alternative_sites : World → List Alternative → Below → List Site
alternative_sites w alternatives b = map (alternative_site w b) (enumerate_from 0 alternatives)

-- Arguments that the site's own type doesn't take stand for what is in it.
abbrev pub passed_on : Site → Use
passed_on s = if has_parameters s.chain then no_use else record { arguments = s.used.arguments; attributes = []; braces = None }

-- the only node below, at a use that isn't written between braces
abbrev pub inner_site : World → Site → Position → ℕ → AsnType → Site
inner_site w s position k t = record { position = position; chain = chain_of w (written k t); used = passed_on s; at = s.at; reader = s.reader; scope = s.scope; path = s.path ++ 0 ∷ [] }

abbrev pub first_use : List acn.Field → Use
first_use [] = no_use
first_use (f ∷ fs) = default_of (use_of f) no_use

-- the one field between the braces of a list is the use of its element
abbrev pub element_site : World → Site → AsnType → Below → Option (List acn.Field) → Site
element_site w s t b None = inner_site w s element s.chain.owner t
element_site w s t b (Some fs) = site_below b 0 element (chain_of w (written b.owner t)) (first_use fs)

abbrev pub contained : Constraint → Option AsnType
contained (containing t) = Some t
contained _ = None

abbrev pub contained_in : ℕ × Constraint → Option (ℕ × AsnType)
contained_in c = option_map (λ (t : AsnType). (c.0, t)) (contained c.1)

abbrev pub content_among : List (ℕ × Constraint) → Option (ℕ × AsnType)
content_among [] = None
content_among (c ∷ cs) = option_or (contained_in c) (content_among cs)

-- the type that octets contain, with the module in whose text it stands (X.682 clause 11)
abbrev pub content_of : ChainOf → Option (ℕ × AsnType)
content_of c = content_among c.constraints

abbrev pub content_site : World → Site → ℕ × AsnType → Site
content_site w s t = inner_site w s content t.0 t.1

-- what a type has inside
pub data Inside : Type 0 where
  components : List Component → Inside
  alternatives : List Alternative → Inside
  an_element : AsnType → Inside
  octets : Inside
  nothing : Inside

abbrev pub inside_of : AsnBase → Inside
inside_of (sequence cs) = components (component_list cs)
inside_of (choice more) = alternatives (alternative_list more)
inside_of (sequence_of t) = an_element t
inside_of (sequence_size c t) = an_element t
inside_of octet_string = octets
inside_of _ = nothing

abbrev pub sites_in : World → Site → Inside → List Site
sites_in w s (components cs) = sequence_sites w cs (in_sequence cs (below w s))
sites_in w s (alternatives more) = alternative_sites w more (below w s)
sites_in w s (an_element t) = element_site w s t (below w s) (below w s).braces ∷ []
sites_in w s octets = map (content_site w s) (option_to_list (content_of s.chain))
sites_in w s nothing = []

-- the sites one step below a site, in the order of the packet
unfoldable pub sites_below : World → Site → List Site
sites_below w s = sites_in w s (inside_of (base_of s))

-- ---- all sites of a type

-- the text that a node adds to that of the node above it
abbrev pub mark : Position → List ℕ
mark (root owner name) = owner ++ codes "." ++ name
mark (part name rest) = codes "." ++ name
mark (inserted name kind) = codes "." ++ name
mark (alternative name) = codes "." ++ name
mark element = codes "[0]"
mark content = codes "()"

-- the text of a node's path
pub record Placed : Type 0 where
  pub text : List ℕ
  pub site : Site

-- the site and those below it, at most so many steps down, below a node with this text
unfoldable pub sites : ℕ → World → List ℕ → Site → List Placed
sites zero w above s = record { text = above ++ mark s.position; site = s } ∷ []
sites (suc n) w above s = record { text = above ++ mark s.position; site = s } ∷ flat_map (sites n w (above ++ mark s.position)) (sites_below w s)

-- the asked type
abbrev pub root_position : World → TypeId → Position
root_position w p = root (default_of (module_name_at w p) []) (default_of (name_at w p) [])

abbrev pub root_of : World → TypeId → ChainOf → Site
root_of w p c = record { position = root_position w p; chain = c; used = no_use; at = []; reader = p.module; scope = no_scope; path = [] }

unfoldable pub root_site : World → TypeId → Option Site
root_site w p = option_map (root_of w p) (option_map (chain_of w) (assigned_link w p))

-- A node at the end of 65 steps is too deep by itself, so that nothing is asked of those below it.
unfoldable pub sites_of : World → TypeId → List Placed
sites_of w p = flat_map (sites 65 w []) (option_to_list (root_site w p))
