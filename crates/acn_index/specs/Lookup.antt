-- What a name leads to in a module (X.680 clause 13: assignments and imports).
use Rattle.std.specs.Prelude.{ℕ, zero, suc, Bool, false, List, [], length, Option, Some, None, option_and_then, option_map, slice_get, find}
use Rattle.std.specs.Option.{option_or}
use Rattle.std.specs.List.{list_any, position_from}
use Rattle.std.specs.Str.{bytes_eq}
use Rattle.acn_asn_syntax.specs.Mirror.{AsnModule, Assign, TypeIs, ValueIs}
use Rattle.acn_asn_syntax.specs.declared.modules.Import.{Import}
use Rattle.acn_acn_syntax.specs.Mirror.{Module, Entry}
use Rattle.acn_acn_syntax.specs.declared.maps.MapTable.{MapTable}
use Rattle.acn_num.specs.Names.{Name}
use Rattle.acn_index.specs.World.{World, name_of, place}
use Rattle.acn_index.specs.declared.sources.TypeId.{TypeId}
use Rattle.acn_index.specs.declared.sources.EntryPlace.{EntryPlace}

-- ---- which assignments are meant

abbrev pub is_type : Name → Assign → Bool
is_type name (TypeIs other t) = bytes_eq other name
is_type name (ValueIs other t v) = false

abbrev pub is_value : Name → Assign → Bool
is_value name (TypeIs other t) = false
is_value name (ValueIs other t v) = bytes_eq other name

abbrev pub is_named : Name → Assign → Bool
is_named name a = bytes_eq (name_of a) name

-- ---- modules, assignments, imports

-- the number of the module with this name, the first if it is given twice
unfoldable pub module_named : World → Name → Option ℕ
module_named w name = position_from (λ m. bytes_eq m.name name) 0 w.modules

-- the first of a module's own assignments that is meant
unfoldable pub own : World → (Assign → Bool) → ℕ → Option TypeId
own w test k = option_and_then (λ m. option_map (place k) (position_from test 0 m.items)) (slice_get w.modules k)

abbrev pub listed : {A : Type 0} → Option (List A) → List A
listed None = []
listed (Some xs) = xs

abbrev pub imports_of : AsnModule → List Import
imports_of m = listed m.imports

abbrev pub imports_name : Name → Import → Bool
imports_name name i = list_any (bytes_eq name) i.names

abbrev pub import_of : AsnModule → Name → Option Import
import_of m name = find (imports_name name) (imports_of m)

-- the module from which a module imports a name, where it is there
unfoldable pub imported_from : World → Name → ℕ → Option ℕ
imported_from w name k = option_and_then (λ m. option_and_then (λ (i : Import). module_named w i.module) (import_of m name)) (slice_get w.modules k)

-- ---- a name in a module: its own assignment, else what the name leads to in the module from which it is imported

-- over at most so many modules
unfoldable pub found_within : ℕ → World → (Assign → Bool) → Name → ℕ → Option TypeId
found_within zero w test name k = None
found_within (suc n) w test name k = option_or (own w test k) (option_and_then (found_within n w test name) (imported_from w name k))

-- A way over more modules than there are comes back to one of them, so a ring of imports names nothing.
unfoldable pub found : World → (Assign → Bool) → Name → ℕ → Option TypeId
found w test name k = found_within (length w.modules) w test name k

-- a reference to a type, with or without a module's name in front (X.680 clause 14)
unfoldable pub type_named : World → ℕ → Option Name → Name → Option TypeId
type_named w k None name = found w (is_type name) name k
type_named w k (Some from) name = option_and_then (found w (is_type name) name) (module_named w from)

-- an identifier that refers to a value (X.680 clause 14)
unfoldable pub value_named : World → ℕ → Name → Option TypeId
value_named w k name = found w (is_value name) name k

-- the type that a module with a name gives a name to itself
unfoldable pub type_in : World → Name → Name → Option TypeId
type_in w owner name = option_and_then (own w (is_type name)) (module_named w owner)

-- ---- ACN modules and tables (this profile's own)

abbrev pub acn_named : World → Name → Option Module
acn_named w name = find (λ a. bytes_eq a.name name) w.acn

abbrev pub entry_named : Module → Name → Option Entry
entry_named a name = find (λ e. bytes_eq e.name name) a.entries

abbrev pub entry_of_assign : World → Name → Assign → Option Entry
entry_of_assign w owner a = option_and_then (λ m. entry_named m (name_of a)) (acn_named w owner)

-- what the ACN module of an assignment's module says of it
unfoldable pub entry_at : World → TypeId → Option Entry
entry_at w p = option_and_then (λ m. option_and_then (entry_of_assign w m.name) (slice_get m.items p.item)) (slice_get w.modules p.module)

-- the number of the first entry with a name in the ACN module with a number
abbrev pub entry_number : World → ℕ → Name → Option ℕ
entry_number w k name = option_and_then (λ (m : Module). position_from (λ e. bytes_eq e.name name) 0 m.entries) (slice_get w.acn k)

abbrev pub placed : ℕ → ℕ → EntryPlace
placed k i = record { acn = k; entry = i }

abbrev pub place_in : World → Name → ℕ → Option EntryPlace
place_in w name k = option_map (placed k) (entry_number w k name)

abbrev pub place_of_assign : World → Name → Assign → Option EntryPlace
place_of_assign w owner a = option_and_then (place_in w (name_of a)) (position_from (λ (m : Module). bytes_eq m.name owner) 0 w.acn)

-- where that entry stands in the text
unfoldable pub entry_place : World → TypeId → Option EntryPlace
entry_place w p = option_and_then (λ m. option_and_then (place_of_assign w m.name) (slice_get m.items p.item)) (slice_get w.modules p.module)

-- the entry that stands at a place
abbrev pub entry_in_place : World → EntryPlace → Option Entry
entry_in_place w q = option_and_then (λ (m : Module). slice_get m.entries q.entry) (slice_get w.acn q.acn)

-- An entry with the number of the ASN.1 module in which its references are read, that of the ACN module in which it stands, and
-- its own number there. What stands earlier in the text has the lower numbers.
pub record EntryAt : Type 0 where
  pub owner : ℕ
  pub acn : ℕ
  pub entry : ℕ
  pub is : Entry

abbrev pub entry_with : World → TypeId → EntryPlace → Option EntryAt
entry_with w p q = option_map (λ (e : Entry). record { owner = p.module; acn = q.acn; entry = q.entry; is = e }) (entry_in_place w q)

-- what the ACN module of an assignment's module says of it, with its place
unfoldable pub placed_entry : World → TypeId → Option EntryAt
placed_entry w p = option_and_then (entry_with w p) (entry_place w p)

unfoldable pub table_named : World → Name → Option MapTable
table_named w name = find (λ t. bytes_eq t.name name) w.tables
