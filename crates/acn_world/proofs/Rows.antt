-- Worked rows.
use Rattle.std.proofs.Common.{◌≡◌, ℕ, List, [], ◌∷◌, refl, Some, None, Option, false}
use Rattle.std.specs.Prelude.{codes, map}
use Rattle.acn_asn_syntax.specs.declared.values.AsnValue.{AsnValue}
use Rattle.acn_asn_syntax.specs.declared.values.AsnValue.TheVariants as value
use Rattle.acn_asn_syntax.specs.declared.types.Rest.TheVariants as rest
use Rattle.acn_asn_syntax.specs.declared.types.Named.{Named}
use Rattle.acn_asn_syntax.specs.declared.types.Item.{Item}
use Rattle.acn_asn_syntax.specs.declared.modules.Import.{Import}
use Rattle.acn_asn_syntax.specs.Mirror.{AsnModule, Assign, TypeIs, ValueIs, AsnType, type_of, boolean, null, integer, enumerated, octet_string, sequence, sequence_of, choice, reference, no_components, and_component, no_alternatives, and_alternative, Constraint, no_constraints, and_constraint, by_set, containing, union_of, no_meets, meet_of, no_parts, part_of, range_of}
use Rattle.acn_acn_syntax.specs.declared.modules.Attr.TheVariants as attr
use Rattle.acn_acn_syntax.specs.declared.modules.FieldKind.TheVariants as field_kind
use Rattle.acn_acn_syntax.specs.declared.modules.ParamKind.{ParamKind}
use Rattle.acn_acn_syntax.specs.declared.modules.ParamKind.TheVariants as param_kind
use Rattle.acn_acn_syntax.specs.declared.modules.Param.{Param}
use Rattle.acn_acn_syntax.specs.declared.maps.MapTable.{MapTable}
use Rattle.acn_acn_syntax.specs.Mirror.{Entry, Module, Braces, no_braces, braces, no_fields, and_field, plain, inserted}
use Rattle.acn_index.specs.World.{World, place, assignment, type_at, places, count}
use Rattle.acn_index.specs.Lookup.{module_named, own, imported_from, found_within, found, type_named, value_named, type_in, entry_at, entry_place, placed_entry, table_named}
use Rattle.acn_index.specs.Values.{first_worth, value_within, value_of, leads_to_number}
use Rattle.acn_index.specs.Chains.{written, next_link, links_within, links, base_link, base_of, chain_of, has_parameters}
use Rattle.acn_mentions.specs.Mentions.{in_set, in_meets, in_meet, in_parts, in_part, in_element, mentions, base_mentions, component_mentions, alternative_mentions, all_constraint_mentions, constraint_mentions, assign_mentions, field_mentions, braces_mentions, fields_mentions, entry_mentions}
use Rattle.acn_world.specs.Repeated.{repeated, twice, twice_base, twice_components, twice_alternatives, twice_constraints, twice_constraint, twice_items, twice_module, asn_repeats, twice_field, twice_braces, twice_fields, twice_entry, twice_entries, acn_repeats, repeats}
use Rattle.acn_world.specs.Unknown.{missing_modules, names_of, is_known, unknown_in, acn_type_named, is_acn_known, acn_unknown_in, unknowns}
use Rattle.acn_graph.specs.Graph.{Among, here}
use Rattle.acn_world.specs.Cycles.{Reaches, once, more, IsFirstCycle, targets_of, targets, is_as_number, is_acn_wrong, wrong_kinds}
use Rattle.acn_world.specs.Faults.{first, early_fault, refers_to, referred, is_root, roots}
use Rattle.acn_index.specs.declared.sources.TypeId.{TypeId}
use Rattle.acn_world.specs.declared.fault.NameFault.TheVariants as fault

-- ---- how the rows are written

abbrev int : AsnType
int = type_of None (integer None) no_constraints

abbrev named : List ℕ → AsnType
named name = type_of None (reference None name) no_constraints

abbrev at_most : ℕ → Constraint
at_most n = by_set (union_of (meet_of (part_of (range_of (record { low = Some (value.Number false 0); low_out = false; high = Some (value.Number false n); high_out = false }))) no_parts) no_meets)

abbrev to : ℕ → AsnType
to n = type_of None (integer None) (and_constraint (at_most n) no_constraints)

abbrev refined : List ℕ → ℕ → AsnType
refined name n = type_of None (reference None name) (and_constraint (at_most n) no_constraints)

abbrev upto : Option (List Named) → List ℕ → AsnType
upto ns name = type_of None (integer ns) (and_constraint (by_set (union_of (meet_of (part_of (range_of (record { low = Some (value.Number false 0); low_out = false; high = Some (value.Ref name); high_out = false }))) no_parts) no_meets)) no_constraints)

abbrev record_of : List ℕ → AsnType → List ℕ → AsnType → AsnType
record_of a s b t = type_of None (sequence (and_component a s rest.Required (and_component b t rest.Required no_components))) no_constraints

abbrev numbered : List ℕ → ℕ → Named
numbered name n = record { name = name; negative = false; number = n }

abbrev item : List ℕ → Item
item name = record { name = name; number = None }

abbrev number : List ℕ → AsnValue → Assign
number name v = ValueIs name int v

abbrev from : List ℕ → List ℕ → Import
from name owner = record { names = name ∷ []; «module» = owner; oid = None }

abbrev unit : List ℕ → List Import → List Assign → AsnModule
unit name imports items = record { name = name; oid = None; tags = None; exports = None; imports = Some imports; items = items }

abbrev two : List Import → List Assign → List Import → List Assign → World
two imports items others more_items = record { modules = unit (codes "M") imports items ∷ unit (codes "N") others more_items ∷ []; acn = []; tables = [] }

abbrev only : List Assign → World
only items = record { modules = unit (codes "M") [] items ∷ []; acn = []; tables = [] }

abbrev with_acn : List Assign → List Module → List MapTable → World
with_acn items acn tables = record { modules = unit (codes "M") [] items ∷ []; acn = acn; tables = tables }

abbrev says : List ℕ → List Entry → Module
says name entries = record { name = name; entries = entries }

abbrev entry : List ℕ → List Param → Braces → Entry
entry name parameters fields = record { name = name; parameters = parameters; attributes = []; fields = fields }

abbrev param : ParamKind → List ℕ → Param
param kind name = record { kind = kind; name = name }

abbrev table : List ℕ → MapTable
table name = record { name = name; lines = [] }

abbrev itself : World
itself = only (TypeIs (codes "T") (type_of None (sequence (and_component (codes "a") (named (codes "T")) rest.Optional no_components)) no_constraints) ∷ [])

abbrev ring : World
ring = only (TypeIs (codes "A") (type_of None (sequence_of (named (codes "B"))) no_constraints)
    ∷ TypeIs (codes "B") (type_of None (choice (and_alternative (codes "c") (named (codes "C")) no_alternatives)) no_constraints)
    ∷ TypeIs (codes "C") (type_of None octet_string (and_constraint (containing (named (codes "A"))) no_constraints)) ∷ [])

abbrev both_ways : World
both_ways = two (from (codes "Y") (codes "N") ∷ []) (TypeIs (codes "X") int ∷ TypeIs (codes "A") (named (codes "Y")) ∷ []) (from (codes "X") (codes "M") ∷ []) (TypeIs (codes "Y") (named (codes "X")) ∷ [])

abbrev hidden : World
hidden = two (from (codes "X") (codes "N") ∷ []) (TypeIs (codes "X") int ∷ []) [] (TypeIs (codes "X") int ∷ [])

abbrev over_modules : World
over_modules = two (from (codes "b") (codes "N") ∷ []) (number (codes "a") (value.Ref (codes "b")) ∷ []) [] (number (codes "b") (value.Ref (codes "c")) ∷ number (codes "c") (value.Number false 7) ∷ [])

-- S ::= SEQUENCE { }, A ::= SEQUENCE { }, Z ::= NULL, with A [] { x KIND [] }
abbrev kinds : List ℕ → World
kinds kind = with_acn (TypeIs (codes "S") (type_of None (sequence no_components) no_constraints) ∷ TypeIs (codes "A") (type_of None (sequence no_components) no_constraints) ∷ TypeIs (codes "Z") (type_of None null no_constraints) ∷ [])
    (says (codes "M") (entry (codes "A") [] (braces (and_field (inserted (codes "x") (field_kind.Ref kind) []) no_fields)) ∷ []) ∷ []) []

none_in_nothing : {q : TypeId} → Among q [] → ⊥
none_in_nothing inside = elim inside [ ]

-- ---- the rows

-- T ::= X
pub unknown_type : early_fault (only (TypeIs (codes "T") (named (codes "X")) ∷ [])) ≡ Some (fault.Unknown (codes "M") (codes "X"))
unfolding module_named own imported_from found_within found type_named value_named type_in entry_at entry_place placed_entry table_named assignment type_at places count next_link links_within links base_link base_of chain_of has_parameters in_set in_meets in_meet in_parts in_part in_element mentions base_mentions component_mentions alternative_mentions all_constraint_mentions constraint_mentions assign_mentions field_mentions braces_mentions fields_mentions entry_mentions repeated twice twice_base twice_components twice_alternatives twice_constraints twice_constraint twice_items twice_module asn_repeats twice_field twice_braces twice_fields twice_entry twice_entries acn_repeats repeats missing_modules names_of is_known unknown_in acn_type_named is_acn_known acn_unknown_in unknowns early_fault
unknown_type = refl

-- T ::= SEQUENCE { a T OPTIONAL } has no earlier fault
pub itself_known : early_fault itself ≡ None
unfolding module_named own imported_from found_within found type_named value_named type_in entry_at entry_place placed_entry table_named assignment type_at places count next_link links_within links base_link base_of chain_of has_parameters in_set in_meets in_meet in_parts in_part in_element mentions base_mentions component_mentions alternative_mentions all_constraint_mentions constraint_mentions assign_mentions field_mentions braces_mentions fields_mentions entry_mentions repeated twice twice_base twice_components twice_alternatives twice_constraints twice_constraint twice_items twice_module asn_repeats twice_field twice_braces twice_fields twice_entry twice_entries acn_repeats repeats missing_modules names_of is_known unknown_in acn_type_named is_acn_known acn_unknown_in unknowns early_fault
itself_known = refl

-- and T is the first that reaches itself, over T alone
pub first_itself : IsFirstCycle itself (place 0 0) (place 0 0 ∷ [])
unfolding module_named own imported_from found_within found type_named value_named type_in entry_at entry_place placed_entry table_named assignment type_at places count first_worth value_within value_of leads_to_number next_link links_within links base_link base_of chain_of has_parameters in_set in_meets in_meet in_parts in_part in_element mentions base_mentions component_mentions alternative_mentions all_constraint_mentions constraint_mentions assign_mentions field_mentions braces_mentions fields_mentions entry_mentions repeated twice twice_base twice_components twice_alternatives twice_constraints twice_constraint twice_items twice_module asn_repeats twice_field twice_braces twice_fields twice_entry twice_entries acn_repeats repeats missing_modules names_of is_known unknown_in acn_type_named is_acn_known acn_unknown_in unknowns targets_of targets is_as_number is_acn_wrong wrong_kinds early_fault refers_to referred is_root roots
first_itself = record { cyclic = once here; earlier = []; later = []; split = refl; none_before = λ q round inside back. none_in_nothing inside }

-- A ::= B, B ::= A
pub ring_of_two : Reaches (only (TypeIs (codes "A") (named (codes "B")) ∷ TypeIs (codes "B") (named (codes "A")) ∷ [])) (place 0 0) (place 0 0) (place 0 0 ∷ place 0 1 ∷ [])
unfolding module_named own imported_from found_within found type_named value_named type_in entry_at entry_place placed_entry table_named assignment type_at places count first_worth value_within value_of leads_to_number next_link links_within links base_link base_of chain_of has_parameters in_set in_meets in_meet in_parts in_part in_element mentions base_mentions component_mentions alternative_mentions all_constraint_mentions constraint_mentions assign_mentions field_mentions braces_mentions fields_mentions entry_mentions repeated twice twice_base twice_components twice_alternatives twice_constraints twice_constraint twice_items twice_module asn_repeats twice_field twice_braces twice_fields twice_entry twice_entries acn_repeats repeats missing_modules names_of is_known unknown_in acn_type_named is_acn_known acn_unknown_in unknowns targets_of targets is_as_number is_acn_wrong wrong_kinds early_fault refers_to referred is_root roots
ring_of_two = more here (once here)

-- A ::= SEQUENCE OF B, B ::= CHOICE { c C }, C ::= OCTET STRING (CONTAINING A)
pub ring_of_three : Reaches ring (place 0 0) (place 0 0) (place 0 0 ∷ place 0 1 ∷ place 0 2 ∷ [])
unfolding module_named own imported_from found_within found type_named value_named type_in entry_at entry_place placed_entry table_named assignment type_at places count first_worth value_within value_of leads_to_number next_link links_within links base_link base_of chain_of has_parameters in_set in_meets in_meet in_parts in_part in_element mentions base_mentions component_mentions alternative_mentions all_constraint_mentions constraint_mentions assign_mentions field_mentions braces_mentions fields_mentions entry_mentions repeated twice twice_base twice_components twice_alternatives twice_constraints twice_constraint twice_items twice_module asn_repeats twice_field twice_braces twice_fields twice_entry twice_entries acn_repeats repeats missing_modules names_of is_known unknown_in acn_type_named is_acn_known acn_unknown_in unknowns targets_of targets is_as_number is_acn_wrong wrong_kinds early_fault refers_to referred is_root roots
ring_of_three = more here (more here (once here))

-- a INTEGER ::= b, b INTEGER ::= a; a value's type is no reference of the value
pub ring_of_values : Reaches (only (number (codes "a") (value.Ref (codes "b")) ∷ number (codes "b") (value.Ref (codes "a")) ∷ [])) (place 0 1) (place 0 1) (place 0 1 ∷ place 0 0 ∷ [])
unfolding module_named own imported_from found_within found type_named value_named type_in entry_at entry_place placed_entry table_named assignment type_at places count first_worth value_within value_of leads_to_number next_link links_within links base_link base_of chain_of has_parameters in_set in_meets in_meet in_parts in_part in_element mentions base_mentions component_mentions alternative_mentions all_constraint_mentions constraint_mentions assign_mentions field_mentions braces_mentions fields_mentions entry_mentions repeated twice twice_base twice_components twice_alternatives twice_constraints twice_constraint twice_items twice_module asn_repeats twice_field twice_braces twice_fields twice_entry twice_entries acn_repeats repeats missing_modules names_of is_known unknown_in acn_type_named is_acn_known acn_unknown_in unknowns targets_of targets is_as_number is_acn_wrong wrong_kinds early_fault refers_to referred is_root roots
ring_of_values = more here (once here)

-- M imports Y from N, and N imports X from M
pub imported_both_ways : early_fault both_ways ≡ None
unfolding module_named own imported_from found_within found type_named value_named type_in entry_at entry_place placed_entry table_named assignment type_at places count next_link links_within links base_link base_of chain_of has_parameters in_set in_meets in_meet in_parts in_part in_element mentions base_mentions component_mentions alternative_mentions all_constraint_mentions constraint_mentions assign_mentions field_mentions braces_mentions fields_mentions entry_mentions repeated twice twice_base twice_components twice_alternatives twice_constraints twice_constraint twice_items twice_module asn_repeats twice_field twice_braces twice_fields twice_entry twice_entries acn_repeats repeats missing_modules names_of is_known unknown_in acn_type_named is_acn_known acn_unknown_in unknowns early_fault
imported_both_ways = refl

-- Y in M is the Y of N
pub imported_type : type_named both_ways 0 None (codes "Y") ≡ Some (place 1 0)
unfolding module_named own imported_from found_within found type_named value_named type_in entry_at entry_place placed_entry table_named assignment type_at places count
imported_type = refl

-- N.X in M is the X that N imports from M
pub type_of_module : type_named both_ways 0 (Some (codes "N")) (codes "X") ≡ Some (place 0 0)
unfolding module_named own imported_from found_within found type_named value_named type_in entry_at entry_place placed_entry table_named assignment type_at places count
type_of_module = refl

-- O.X is nothing where there is no O
pub type_of_no_module : type_named both_ways 0 (Some (codes "O")) (codes "X") ≡ None
unfolding module_named own imported_from found_within found type_named value_named type_in entry_at entry_place placed_entry table_named assignment type_at places count
type_of_no_module = refl

-- an own assignment goes before an import of the same name
pub own_before_imported : type_named hidden 0 None (codes "X") ≡ Some (place 0 0)
unfolding module_named own imported_from found_within found type_named value_named type_in entry_at entry_place placed_entry table_named assignment type_at places count
own_before_imported = refl

-- M imports X from N, and N imports X from M
pub ring_of_imports : early_fault (two (from (codes "X") (codes "N") ∷ []) [] (from (codes "X") (codes "M") ∷ []) []) ≡ Some (fault.Unknown (codes "M") (codes "X"))
unfolding module_named own imported_from found_within found type_named value_named type_in entry_at entry_place placed_entry table_named assignment type_at places count next_link links_within links base_link base_of chain_of has_parameters in_set in_meets in_meet in_parts in_part in_element mentions base_mentions component_mentions alternative_mentions all_constraint_mentions constraint_mentions assign_mentions field_mentions braces_mentions fields_mentions entry_mentions repeated twice twice_base twice_components twice_alternatives twice_constraints twice_constraint twice_items twice_module asn_repeats twice_field twice_braces twice_fields twice_entry twice_entries acn_repeats repeats missing_modules names_of is_known unknown_in acn_type_named is_acn_known acn_unknown_in unknowns early_fault
ring_of_imports = refl

-- M imports X from N, which has none
pub no_such_import : early_fault (two (from (codes "X") (codes "N") ∷ []) [] [] []) ≡ Some (fault.Unknown (codes "M") (codes "X"))
unfolding module_named own imported_from found_within found type_named value_named type_in entry_at entry_place placed_entry table_named assignment type_at places count next_link links_within links base_link base_of chain_of has_parameters in_set in_meets in_meet in_parts in_part in_element mentions base_mentions component_mentions alternative_mentions all_constraint_mentions constraint_mentions assign_mentions field_mentions braces_mentions fields_mentions entry_mentions repeated twice twice_base twice_components twice_alternatives twice_constraints twice_constraint twice_items twice_module asn_repeats twice_field twice_braces twice_fields twice_entry twice_entries acn_repeats repeats missing_modules names_of is_known unknown_in acn_type_named is_acn_known acn_unknown_in unknowns early_fault
no_such_import = refl

-- M imports X from O
pub no_module : early_fault (two (from (codes "X") (codes "O") ∷ []) [] [] []) ≡ Some (fault.NoModule (codes "M") (codes "O"))
unfolding module_named own imported_from found_within found type_named value_named type_in entry_at entry_place placed_entry table_named assignment type_at places count next_link links_within links base_link base_of chain_of has_parameters in_set in_meets in_meet in_parts in_part in_element mentions base_mentions component_mentions alternative_mentions all_constraint_mentions constraint_mentions assign_mentions field_mentions braces_mentions fields_mentions entry_mentions repeated twice twice_base twice_components twice_alternatives twice_constraints twice_constraint twice_items twice_module asn_repeats twice_field twice_braces twice_fields twice_entry twice_entries acn_repeats repeats missing_modules names_of is_known unknown_in acn_type_named is_acn_known acn_unknown_in unknowns early_fault
no_module = refl

-- an ACN module N beside the ASN.1 module M
pub no_asn_module : early_fault (with_acn (TypeIs (codes "T") int ∷ []) (record { name = codes "N"; entries = [] } ∷ []) []) ≡ Some (fault.NoModule (codes "N") (codes "N"))
unfolding module_named own imported_from found_within found type_named value_named type_in entry_at entry_place placed_entry table_named assignment type_at places count next_link links_within links base_link base_of chain_of has_parameters in_set in_meets in_meet in_parts in_part in_element mentions base_mentions component_mentions alternative_mentions all_constraint_mentions constraint_mentions assign_mentions field_mentions braces_mentions fields_mentions entry_mentions repeated twice twice_base twice_components twice_alternatives twice_constraints twice_constraint twice_items twice_module asn_repeats twice_field twice_braces twice_fields twice_entry twice_entries acn_repeats repeats missing_modules names_of is_known unknown_in acn_type_named is_acn_known acn_unknown_in unknowns early_fault
no_asn_module = refl

-- the module M twice
pub module_twice : early_fault (record { modules = unit (codes "M") [] [] ∷ unit (codes "M") [] [] ∷ []; acn = []; tables = [] }) ≡ Some (fault.Repeated (codes "M") (codes "M"))
unfolding module_named own imported_from found_within found type_named value_named type_in entry_at entry_place placed_entry table_named assignment type_at places count next_link links_within links base_link base_of chain_of has_parameters in_set in_meets in_meet in_parts in_part in_element mentions base_mentions component_mentions alternative_mentions all_constraint_mentions constraint_mentions assign_mentions field_mentions braces_mentions fields_mentions entry_mentions repeated twice twice_base twice_components twice_alternatives twice_constraints twice_constraint twice_items twice_module asn_repeats twice_field twice_braces twice_fields twice_entry twice_entries acn_repeats repeats missing_modules names_of is_known unknown_in acn_type_named is_acn_known acn_unknown_in unknowns early_fault
module_twice = refl

-- A ::= INTEGER, A ::= INTEGER
pub assignment_twice : early_fault (only (TypeIs (codes "A") int ∷ TypeIs (codes "A") int ∷ [])) ≡ Some (fault.Repeated (codes "M") (codes "A"))
unfolding module_named own imported_from found_within found type_named value_named type_in entry_at entry_place placed_entry table_named assignment type_at places count next_link links_within links base_link base_of chain_of has_parameters in_set in_meets in_meet in_parts in_part in_element mentions base_mentions component_mentions alternative_mentions all_constraint_mentions constraint_mentions assign_mentions field_mentions braces_mentions fields_mentions entry_mentions repeated twice twice_base twice_components twice_alternatives twice_constraints twice_constraint twice_items twice_module asn_repeats twice_field twice_braces twice_fields twice_entry twice_entries acn_repeats repeats missing_modules names_of is_known unknown_in acn_type_named is_acn_known acn_unknown_in unknowns early_fault
assignment_twice = refl

-- M imports A from N, and has A ::= INTEGER
pub imported_and_assigned : early_fault (two (from (codes "A") (codes "N") ∷ []) (TypeIs (codes "A") int ∷ []) [] (TypeIs (codes "A") int ∷ [])) ≡ Some (fault.Repeated (codes "M") (codes "A"))
unfolding module_named own imported_from found_within found type_named value_named type_in entry_at entry_place placed_entry table_named assignment type_at places count next_link links_within links base_link base_of chain_of has_parameters in_set in_meets in_meet in_parts in_part in_element mentions base_mentions component_mentions alternative_mentions all_constraint_mentions constraint_mentions assign_mentions field_mentions braces_mentions fields_mentions entry_mentions repeated twice twice_base twice_components twice_alternatives twice_constraints twice_constraint twice_items twice_module asn_repeats twice_field twice_braces twice_fields twice_entry twice_entries acn_repeats repeats missing_modules names_of is_known unknown_in acn_type_named is_acn_known acn_unknown_in unknowns early_fault
imported_and_assigned = refl

-- INTEGER { a(1), a(2) }
pub number_twice : early_fault (only (TypeIs (codes "A") (type_of None (integer (Some (numbered (codes "a") 1 ∷ numbered (codes "a") 2 ∷ []))) no_constraints) ∷ [])) ≡ Some (fault.Repeated (codes "M") (codes "a"))
unfolding module_named own imported_from found_within found type_named value_named type_in entry_at entry_place placed_entry table_named assignment type_at places count next_link links_within links base_link base_of chain_of has_parameters in_set in_meets in_meet in_parts in_part in_element mentions base_mentions component_mentions alternative_mentions all_constraint_mentions constraint_mentions assign_mentions field_mentions braces_mentions fields_mentions entry_mentions repeated twice twice_base twice_components twice_alternatives twice_constraints twice_constraint twice_items twice_module asn_repeats twice_field twice_braces twice_fields twice_entry twice_entries acn_repeats repeats missing_modules names_of is_known unknown_in acn_type_named is_acn_known acn_unknown_in unknowns early_fault
number_twice = refl

-- ENUMERATED { a, b, a }
pub item_twice : early_fault (only (TypeIs (codes "A") (type_of None (enumerated (item (codes "a") ∷ item (codes "b") ∷ item (codes "a") ∷ [])) no_constraints) ∷ [])) ≡ Some (fault.Repeated (codes "M") (codes "a"))
unfolding module_named own imported_from found_within found type_named value_named type_in entry_at entry_place placed_entry table_named assignment type_at places count next_link links_within links base_link base_of chain_of has_parameters in_set in_meets in_meet in_parts in_part in_element mentions base_mentions component_mentions alternative_mentions all_constraint_mentions constraint_mentions assign_mentions field_mentions braces_mentions fields_mentions entry_mentions repeated twice twice_base twice_components twice_alternatives twice_constraints twice_constraint twice_items twice_module asn_repeats twice_field twice_braces twice_fields twice_entry twice_entries acn_repeats repeats missing_modules names_of is_known unknown_in acn_type_named is_acn_known acn_unknown_in unknowns early_fault
item_twice = refl

-- SEQUENCE { a SEQUENCE { x INTEGER, x INTEGER }, a INTEGER }: x stands before the second a
pub inner_before_outer : early_fault (only (TypeIs (codes "A") (record_of (codes "a") (record_of (codes "x") int (codes "x") int) (codes "a") int) ∷ [])) ≡ Some (fault.Repeated (codes "M") (codes "x"))
unfolding module_named own imported_from found_within found type_named value_named type_in entry_at entry_place placed_entry table_named assignment type_at places count next_link links_within links base_link base_of chain_of has_parameters in_set in_meets in_meet in_parts in_part in_element mentions base_mentions component_mentions alternative_mentions all_constraint_mentions constraint_mentions assign_mentions field_mentions braces_mentions fields_mentions entry_mentions repeated twice twice_base twice_components twice_alternatives twice_constraints twice_constraint twice_items twice_module asn_repeats twice_field twice_braces twice_fields twice_entry twice_entries acn_repeats repeats missing_modules names_of is_known unknown_in acn_type_named is_acn_known acn_unknown_in unknowns early_fault
inner_before_outer = refl

-- SEQUENCE { a SEQUENCE { a INTEGER, b INTEGER }, a INTEGER }
pub component_twice : early_fault (only (TypeIs (codes "A") (record_of (codes "a") (record_of (codes "a") int (codes "b") int) (codes "a") int) ∷ [])) ≡ Some (fault.Repeated (codes "M") (codes "a"))
unfolding module_named own imported_from found_within found type_named value_named type_in entry_at entry_place placed_entry table_named assignment type_at places count next_link links_within links base_link base_of chain_of has_parameters in_set in_meets in_meet in_parts in_part in_element mentions base_mentions component_mentions alternative_mentions all_constraint_mentions constraint_mentions assign_mentions field_mentions braces_mentions fields_mentions entry_mentions repeated twice twice_base twice_components twice_alternatives twice_constraints twice_constraint twice_items twice_module asn_repeats twice_field twice_braces twice_fields twice_entry twice_entries acn_repeats repeats missing_modules names_of is_known unknown_in acn_type_named is_acn_known acn_unknown_in unknowns early_fault
component_twice = refl

-- CHOICE { a INTEGER, a INTEGER }
pub alternative_twice : early_fault (only (TypeIs (codes "A") (type_of None (choice (and_alternative (codes "a") int (and_alternative (codes "a") int no_alternatives))) no_constraints) ∷ [])) ≡ Some (fault.Repeated (codes "M") (codes "a"))
unfolding module_named own imported_from found_within found type_named value_named type_in entry_at entry_place placed_entry table_named assignment type_at places count next_link links_within links base_link base_of chain_of has_parameters in_set in_meets in_meet in_parts in_part in_element mentions base_mentions component_mentions alternative_mentions all_constraint_mentions constraint_mentions assign_mentions field_mentions braces_mentions fields_mentions entry_mentions repeated twice twice_base twice_components twice_alternatives twice_constraints twice_constraint twice_items twice_module asn_repeats twice_field twice_braces twice_fields twice_entry twice_entries acn_repeats repeats missing_modules names_of is_known unknown_in acn_type_named is_acn_known acn_unknown_in unknowns early_fault
alternative_twice = refl

-- A [] A [] in an ACN module
pub entry_twice : early_fault (with_acn (TypeIs (codes "A") int ∷ []) (says (codes "M") (entry (codes "A") [] no_braces ∷ entry (codes "A") [] no_braces ∷ []) ∷ []) []) ≡ Some (fault.Repeated (codes "M") (codes "A"))
unfolding module_named own imported_from found_within found type_named value_named type_in entry_at entry_place placed_entry table_named assignment type_at places count next_link links_within links base_link base_of chain_of has_parameters in_set in_meets in_meet in_parts in_part in_element mentions base_mentions component_mentions alternative_mentions all_constraint_mentions constraint_mentions assign_mentions field_mentions braces_mentions fields_mentions entry_mentions repeated twice twice_base twice_components twice_alternatives twice_constraints twice_constraint twice_items twice_module asn_repeats twice_field twice_braces twice_fields twice_entry twice_entries acn_repeats repeats missing_modules names_of is_known unknown_in acn_type_named is_acn_known acn_unknown_in unknowns early_fault
entry_twice = refl

-- A <INTEGER : x, INTEGER : x> []
pub parameter_twice : early_fault (with_acn (TypeIs (codes "A") int ∷ []) (says (codes "M") (entry (codes "A") (param param_kind.Integer (codes "x") ∷ param param_kind.Integer (codes "x") ∷ []) no_braces ∷ []) ∷ []) []) ≡ Some (fault.Repeated (codes "M") (codes "x"))
unfolding module_named own imported_from found_within found type_named value_named type_in entry_at entry_place placed_entry table_named assignment type_at places count next_link links_within links base_link base_of chain_of has_parameters in_set in_meets in_meet in_parts in_part in_element mentions base_mentions component_mentions alternative_mentions all_constraint_mentions constraint_mentions assign_mentions field_mentions braces_mentions fields_mentions entry_mentions repeated twice twice_base twice_components twice_alternatives twice_constraints twice_constraint twice_items twice_module asn_repeats twice_field twice_braces twice_fields twice_entry twice_entries acn_repeats repeats missing_modules names_of is_known unknown_in acn_type_named is_acn_known acn_unknown_in unknowns early_fault
parameter_twice = refl

-- A [] { x INTEGER [], x [] }
pub field_twice : early_fault (with_acn (TypeIs (codes "A") int ∷ []) (says (codes "M") (entry (codes "A") [] (braces (and_field (inserted (codes "x") field_kind.Integer []) (and_field (plain (codes "x") [] [] no_braces) no_fields))) ∷ []) ∷ []) []) ≡ Some (fault.Repeated (codes "M") (codes "x"))
unfolding module_named own imported_from found_within found type_named value_named type_in entry_at entry_place placed_entry table_named assignment type_at places count next_link links_within links base_link base_of chain_of has_parameters in_set in_meets in_meet in_parts in_part in_element mentions base_mentions component_mentions alternative_mentions all_constraint_mentions constraint_mentions assign_mentions field_mentions braces_mentions fields_mentions entry_mentions repeated twice twice_base twice_components twice_alternatives twice_constraints twice_constraint twice_items twice_module asn_repeats twice_field twice_braces twice_fields twice_entry twice_entries acn_repeats repeats missing_modules names_of is_known unknown_in acn_type_named is_acn_known acn_unknown_in unknowns early_fault
field_twice = refl

-- a table m twice
pub table_twice : early_fault (with_acn (TypeIs (codes "A") int ∷ []) [] (table (codes "m") ∷ table (codes "m") ∷ [])) ≡ Some (fault.Repeated (codes "m") (codes "m"))
unfolding module_named own imported_from found_within found type_named value_named type_in entry_at entry_place placed_entry table_named assignment type_at places count next_link links_within links base_link base_of chain_of has_parameters in_set in_meets in_meet in_parts in_part in_element mentions base_mentions component_mentions alternative_mentions all_constraint_mentions constraint_mentions assign_mentions field_mentions braces_mentions fields_mentions entry_mentions repeated twice twice_base twice_components twice_alternatives twice_constraints twice_constraint twice_items twice_module asn_repeats twice_field twice_braces twice_fields twice_entry twice_entries acn_repeats repeats missing_modules names_of is_known unknown_in acn_type_named is_acn_known acn_unknown_in unknowns early_fault
table_twice = refl

-- Repeated goes before NoModule and Unknown, wherever they stand
pub repeated_first : early_fault (two (from (codes "X") (codes "O") ∷ []) (TypeIs (codes "A") (named (codes "Z")) ∷ TypeIs (codes "A") int ∷ []) [] []) ≡ Some (fault.Repeated (codes "M") (codes "A"))
unfolding module_named own imported_from found_within found type_named value_named type_in entry_at entry_place placed_entry table_named assignment type_at places count next_link links_within links base_link base_of chain_of has_parameters in_set in_meets in_meet in_parts in_part in_element mentions base_mentions component_mentions alternative_mentions all_constraint_mentions constraint_mentions assign_mentions field_mentions braces_mentions fields_mentions entry_mentions repeated twice twice_base twice_components twice_alternatives twice_constraints twice_constraint twice_items twice_module asn_repeats twice_field twice_braces twice_fields twice_entry twice_entries acn_repeats repeats missing_modules names_of is_known unknown_in acn_type_named is_acn_known acn_unknown_in unknowns early_fault
repeated_first = refl

-- NoModule goes before Unknown
pub no_module_first : early_fault (two [] (TypeIs (codes "A") (named (codes "Z")) ∷ []) (from (codes "X") (codes "O") ∷ []) []) ≡ Some (fault.NoModule (codes "N") (codes "O"))
unfolding module_named own imported_from found_within found type_named value_named type_in entry_at entry_place placed_entry table_named assignment type_at places count next_link links_within links base_link base_of chain_of has_parameters in_set in_meets in_meet in_parts in_part in_element mentions base_mentions component_mentions alternative_mentions all_constraint_mentions constraint_mentions assign_mentions field_mentions braces_mentions fields_mentions entry_mentions repeated twice twice_base twice_components twice_alternatives twice_constraints twice_constraint twice_items twice_module asn_repeats twice_field twice_braces twice_fields twice_entry twice_entries acn_repeats repeats missing_modules names_of is_known unknown_in acn_type_named is_acn_known acn_unknown_in unknowns early_fault
no_module_first = refl

-- an entry B without a type B
pub unknown_entry : early_fault (with_acn (TypeIs (codes "A") int ∷ []) (says (codes "M") (entry (codes "B") [] no_braces ∷ []) ∷ []) []) ≡ Some (fault.Unknown (codes "M") (codes "B"))
unfolding module_named own imported_from found_within found type_named value_named type_in entry_at entry_place placed_entry table_named assignment type_at places count next_link links_within links base_link base_of chain_of has_parameters in_set in_meets in_meet in_parts in_part in_element mentions base_mentions component_mentions alternative_mentions all_constraint_mentions constraint_mentions assign_mentions field_mentions braces_mentions fields_mentions entry_mentions repeated twice twice_base twice_components twice_alternatives twice_constraints twice_constraint twice_items twice_module asn_repeats twice_field twice_braces twice_fields twice_entry twice_entries acn_repeats repeats missing_modules names_of is_known unknown_in acn_type_named is_acn_known acn_unknown_in unknowns early_fault
unknown_entry = refl

-- A [] { x Z [] }
pub unknown_kind : early_fault (with_acn (TypeIs (codes "A") int ∷ []) (says (codes "M") (entry (codes "A") [] (braces (and_field (inserted (codes "x") (field_kind.Ref (codes "Z")) []) no_fields)) ∷ []) ∷ []) []) ≡ Some (fault.Unknown (codes "M") (codes "Z"))
unfolding module_named own imported_from found_within found type_named value_named type_in entry_at entry_place placed_entry table_named assignment type_at places count next_link links_within links base_link base_of chain_of has_parameters in_set in_meets in_meet in_parts in_part in_element mentions base_mentions component_mentions alternative_mentions all_constraint_mentions constraint_mentions assign_mentions field_mentions braces_mentions fields_mentions entry_mentions repeated twice twice_base twice_components twice_alternatives twice_constraints twice_constraint twice_items twice_module asn_repeats twice_field twice_braces twice_fields twice_entry twice_entries acn_repeats repeats missing_modules names_of is_known unknown_in acn_type_named is_acn_known acn_unknown_in unknowns early_fault
unknown_kind = refl

-- A [mapping-function m]
pub unknown_table : early_fault (with_acn (TypeIs (codes "A") int ∷ []) (says (codes "M") (record { name = codes "A"; parameters = []; attributes = attr.MappingFunction (codes "m") ∷ []; fields = no_braces } ∷ []) ∷ []) []) ≡ Some (fault.Unknown (codes "M") (codes "m"))
unfolding module_named own imported_from found_within found type_named value_named type_in entry_at entry_place placed_entry table_named assignment type_at places count next_link links_within links base_link base_of chain_of has_parameters in_set in_meets in_meet in_parts in_part in_element mentions base_mentions component_mentions alternative_mentions all_constraint_mentions constraint_mentions assign_mentions field_mentions braces_mentions fields_mentions entry_mentions repeated twice twice_base twice_components twice_alternatives twice_constraints twice_constraint twice_items twice_module asn_repeats twice_field twice_braces twice_fields twice_entry twice_entries acn_repeats repeats missing_modules names_of is_known unknown_in acn_type_named is_acn_known acn_unknown_in unknowns early_fault
unknown_table = refl

-- A ::= INTEGER (0..b)
pub unknown_value : early_fault (only (TypeIs (codes "A") (upto None (codes "b")) ∷ [])) ≡ Some (fault.Unknown (codes "M") (codes "b"))
unfolding module_named own imported_from found_within found type_named value_named type_in entry_at entry_place placed_entry table_named assignment type_at places count next_link links_within links base_link base_of chain_of has_parameters in_set in_meets in_meet in_parts in_part in_element mentions base_mentions component_mentions alternative_mentions all_constraint_mentions constraint_mentions assign_mentions field_mentions braces_mentions fields_mentions entry_mentions repeated twice twice_base twice_components twice_alternatives twice_constraints twice_constraint twice_items twice_module asn_repeats twice_field twice_braces twice_fields twice_entry twice_entries acn_repeats repeats missing_modules names_of is_known unknown_in acn_type_named is_acn_known acn_unknown_in unknowns early_fault
unknown_value = refl

-- A ::= INTEGER { b(1) } (0..b): b is a named number of the type
pub named_number : early_fault (only (TypeIs (codes "A") (upto (Some (numbered (codes "b") 1 ∷ [])) (codes "b")) ∷ [])) ≡ None
unfolding module_named own imported_from found_within found type_named value_named type_in entry_at entry_place placed_entry table_named assignment type_at places count next_link links_within links base_link base_of chain_of has_parameters in_set in_meets in_meet in_parts in_part in_element mentions base_mentions component_mentions alternative_mentions all_constraint_mentions constraint_mentions assign_mentions field_mentions braces_mentions fields_mentions entry_mentions repeated twice twice_base twice_components twice_alternatives twice_constraints twice_constraint twice_items twice_module asn_repeats twice_field twice_braces twice_fields twice_entry twice_entries acn_repeats repeats missing_modules names_of is_known unknown_in acn_type_named is_acn_known acn_unknown_in unknowns early_fault
named_number = refl

-- a INTEGER { b(1) } ::= b: the identifier is looked up among the values alone
pub not_its_named_number : early_fault (only (ValueIs (codes "a") (type_of None (integer (Some (numbered (codes "b") 1 ∷ []))) no_constraints) (value.Ref (codes "b")) ∷ [])) ≡ Some (fault.Unknown (codes "M") (codes "b"))
unfolding module_named own imported_from found_within found type_named value_named type_in entry_at entry_place placed_entry table_named assignment type_at places count next_link links_within links base_link base_of chain_of has_parameters in_set in_meets in_meet in_parts in_part in_element mentions base_mentions component_mentions alternative_mentions all_constraint_mentions constraint_mentions assign_mentions field_mentions braces_mentions fields_mentions entry_mentions repeated twice twice_base twice_components twice_alternatives twice_constraints twice_constraint twice_items twice_module asn_repeats twice_field twice_braces twice_fields twice_entry twice_entries acn_repeats repeats missing_modules names_of is_known unknown_in acn_type_named is_acn_known acn_unknown_in unknowns early_fault
not_its_named_number = refl

-- a INTEGER ::= b in M, which imports b from N, where b INTEGER ::= c and c INTEGER ::= 7
pub value_over_modules : value_of over_modules 0 (codes "a") ≡ Some (record { owner = 1; of = int; is = value.Number false 7 })
unfolding module_named own imported_from found_within found type_named value_named type_in entry_at entry_place placed_entry table_named assignment type_at places count first_worth value_within value_of leads_to_number
value_over_modules = refl

-- A ::= INTEGER (0..b) with b BOOLEAN ::= TRUE
pub wrong_value : first (wrong_kinds (only (TypeIs (codes "A") (upto None (codes "b")) ∷ ValueIs (codes "b") (type_of None boolean no_constraints) value.True ∷ []))) ≡ Some (fault.WrongKind (codes "M") (codes "b"))
unfolding module_named own imported_from found_within found type_named value_named type_in entry_at entry_place placed_entry table_named assignment type_at places count first_worth value_within value_of leads_to_number next_link links_within links base_link base_of chain_of has_parameters in_set in_meets in_meet in_parts in_part in_element mentions base_mentions component_mentions alternative_mentions all_constraint_mentions constraint_mentions assign_mentions field_mentions braces_mentions fields_mentions entry_mentions repeated twice twice_base twice_components twice_alternatives twice_constraints twice_constraint twice_items twice_module asn_repeats twice_field twice_braces twice_fields twice_entry twice_entries acn_repeats repeats missing_modules names_of is_known unknown_in acn_type_named is_acn_known acn_unknown_in unknowns targets_of targets is_as_number is_acn_wrong wrong_kinds early_fault refers_to referred is_root roots
wrong_value = refl

-- A [] { x S [] } where S is a SEQUENCE
pub wrong_field : first (wrong_kinds (kinds (codes "S"))) ≡ Some (fault.WrongKind (codes "M") (codes "S"))
unfolding module_named own imported_from found_within found type_named value_named type_in entry_at entry_place placed_entry table_named assignment type_at places count first_worth value_within value_of leads_to_number next_link links_within links base_link base_of chain_of has_parameters in_set in_meets in_meet in_parts in_part in_element mentions base_mentions component_mentions alternative_mentions all_constraint_mentions constraint_mentions assign_mentions field_mentions braces_mentions fields_mentions entry_mentions repeated twice twice_base twice_components twice_alternatives twice_constraints twice_constraint twice_items twice_module asn_repeats twice_field twice_braces twice_fields twice_entry twice_entries acn_repeats repeats missing_modules names_of is_known unknown_in acn_type_named is_acn_known acn_unknown_in unknowns targets_of targets is_as_number is_acn_wrong wrong_kinds early_fault refers_to referred is_root roots
wrong_field = refl

-- A [] { x Z [] } where Z is NULL
pub null_field : first (wrong_kinds (kinds (codes "Z"))) ≡ None
unfolding module_named own imported_from found_within found type_named value_named type_in entry_at entry_place placed_entry table_named assignment type_at places count first_worth value_within value_of leads_to_number next_link links_within links base_link base_of chain_of has_parameters in_set in_meets in_meet in_parts in_part in_element mentions base_mentions component_mentions alternative_mentions all_constraint_mentions constraint_mentions assign_mentions field_mentions braces_mentions fields_mentions entry_mentions repeated twice twice_base twice_components twice_alternatives twice_constraints twice_constraint twice_items twice_module asn_repeats twice_field twice_braces twice_fields twice_entry twice_entries acn_repeats repeats missing_modules names_of is_known unknown_in acn_type_named is_acn_known acn_unknown_in unknowns targets_of targets is_as_number is_acn_wrong wrong_kinds early_fault refers_to referred is_root roots
null_field = refl

-- S, A, Z: the entry of A names Z, and nothing names S or A
pub root_types : roots (kinds (codes "Z")) ≡ place 0 0 ∷ place 0 1 ∷ []
unfolding module_named own imported_from found_within found type_named value_named type_in entry_at entry_place placed_entry table_named assignment type_at places count first_worth value_within value_of leads_to_number next_link links_within links base_link base_of chain_of has_parameters in_set in_meets in_meet in_parts in_part in_element mentions base_mentions component_mentions alternative_mentions all_constraint_mentions constraint_mentions assign_mentions field_mentions braces_mentions fields_mentions entry_mentions repeated twice twice_base twice_components twice_alternatives twice_constraints twice_constraint twice_items twice_module asn_repeats twice_field twice_braces twice_fields twice_entry twice_entries acn_repeats repeats missing_modules names_of is_known unknown_in acn_type_named is_acn_known acn_unknown_in unknowns targets_of targets is_as_number is_acn_wrong wrong_kinds early_fault refers_to referred is_root roots
root_types = refl

-- B ::= A is no root where A has parameters
pub no_root_behind_parameters : roots (with_acn (TypeIs (codes "A") int ∷ TypeIs (codes "B") (named (codes "A")) ∷ []) (says (codes "M") (entry (codes "A") (param param_kind.Integer (codes "x") ∷ []) no_braces ∷ []) ∷ []) []) ≡ []
unfolding module_named own imported_from found_within found type_named value_named type_in entry_at entry_place placed_entry table_named assignment type_at places count first_worth value_within value_of leads_to_number next_link links_within links base_link base_of chain_of has_parameters in_set in_meets in_meet in_parts in_part in_element mentions base_mentions component_mentions alternative_mentions all_constraint_mentions constraint_mentions assign_mentions field_mentions braces_mentions fields_mentions entry_mentions repeated twice twice_base twice_components twice_alternatives twice_constraints twice_constraint twice_items twice_module asn_repeats twice_field twice_braces twice_fields twice_entry twice_entries acn_repeats repeats missing_modules names_of is_known unknown_in acn_type_named is_acn_known acn_unknown_in unknowns targets_of targets is_as_number is_acn_wrong wrong_kinds early_fault refers_to referred is_root roots
no_root_behind_parameters = refl

-- B ::= A (0..5), A ::= INTEGER (0..9): the constraint of A, then that of B
pub base_first : map (λ (c : ℕ × Constraint). c.1) (chain_of (only (TypeIs (codes "B") (refined (codes "A") 5) ∷ TypeIs (codes "A") (to 9) ∷ [])) (written 0 (refined (codes "A") 5))).constraints ≡ at_most 9 ∷ at_most 5 ∷ []
unfolding module_named own imported_from found_within found type_named value_named type_in entry_at entry_place placed_entry table_named assignment type_at places count next_link links_within links base_link base_of chain_of has_parameters
base_first = refl
