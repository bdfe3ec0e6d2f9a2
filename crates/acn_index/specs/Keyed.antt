-- The first place of each name among modules, assignments, imports, entries and tables, as an index keeps them.
use Rattle.std.specs.Prelude.{ℕ, ◌+◌, List, [], ◌∷◌, ◌++◌, map}
use Rattle.acn_asn_syntax.specs.Mirror.{AsnModule, Assign, TypeIs, ValueIs}
use Rattle.acn_asn_syntax.specs.declared.modules.Import.{Import}
use Rattle.acn_acn_syntax.specs.Mirror.{Entry, Module}
use Rattle.acn_acn_syntax.specs.declared.maps.MapTable.{MapTable}
use Rattle.acn_firsts.specs.Placed.{noted_all}
use Rattle.acn_num.specs.Names.{Name}
use Rattle.acn_index.specs.World.{World, name_of}
use Rattle.acn_index.specs.Lookup.{imports_of}
use Rattle.acn_index.specs.declared.maps.OwnNames.{OwnNames}
use Rattle.acn_index.specs.declared.maps.Maps.{Maps}

-- each name with the place of what has it
abbrev pub keyed : {A : Type 0} → (A → List Name) → ℕ → List A → List (Name × ℕ)
keyed names i [] = []
keyed names i (x ∷ xs) = map (λ (n : Name). (n, i)) (names x) ++ keyed names (i + 1) xs

-- each name once, with the first place
abbrev pub firsts : {A : Type 0} → (A → List Name) → List A → List (Name × ℕ)
firsts names xs = noted_all [] (keyed names 0 xs)

-- ---- the names that something has

abbrev pub module_name : AsnModule → List Name
module_name m = m.name ∷ []

abbrev pub own_name : Assign → List Name
own_name a = name_of a ∷ []

abbrev pub type_name : Assign → List Name
type_name (TypeIs name t) = name ∷ []
type_name (ValueIs name t v) = []

abbrev pub value_name : Assign → List Name
value_name (TypeIs name t) = []
value_name (ValueIs name t v) = name ∷ []

abbrev pub import_names : Import → List Name
import_names i = i.names

abbrev pub acn_name : Module → List Name
acn_name m = m.name ∷ []

abbrev pub entry_name : Entry → List Name
entry_name e = e.name ∷ []

abbrev pub table_name : MapTable → List Name
table_name t = t.name ∷ []

-- ---- all maps

abbrev pub own_names : AsnModule → OwnNames
own_names m = record { names = firsts own_name m.items; types = firsts type_name m.items; values = firsts value_name m.items; imports = firsts import_names (imports_of m) }

abbrev pub entry_places : Module → List (Name × ℕ)
entry_places m = firsts entry_name m.entries

abbrev pub maps_of : World → Maps
maps_of w = record { modules = firsts module_name w.modules; own = map own_names w.modules; acn = firsts acn_name w.acn; entries = map entry_places w.acn; tables = firsts table_name w.tables }
