-- The modules and tables of all files, as plain data, and the places of assignments.
use Rattle.std.specs.Prelude.{ℕ, Bool, ◌&&◌, nat_eq, ◌+◌, ◌<◌, List, length, map, Option, Some, None, option_and_then, slice_get, flat_map, IsSome}
use Rattle.std.specs.List.{enumerate_from}
use Rattle.acn_num.specs.Names.{Name}
use Rattle.acn_asn_syntax.specs.Mirror.{AsnModule, AsnType, Assign, TypeIs, ValueIs}
use Rattle.acn_asn_syntax.specs.View.{module_view}
use Rattle.acn_asn_syntax.specs.declared.modules.AsnModule as tree
use Rattle.acn_asn_syntax.specs.declared.modules.AsnModules.{AsnModules}
use Rattle.acn_acn_syntax.specs.Mirror.{Module}
use Rattle.acn_acn_syntax.specs.View.{module_of, modules_of}
use Rattle.acn_acn_syntax.specs.declared.modules.AcnModule as acn_tree
use Rattle.acn_acn_syntax.specs.declared.modules.AcnModules.{AcnModules}
use Rattle.acn_acn_syntax.specs.declared.maps.MapTable.{MapTable}
use Rattle.acn_acn_syntax.specs.declared.maps.MapTables.{MapTables}
use Rattle.acn_index.specs.declared.sources.Sources.{Sources}
use Rattle.acn_index.specs.declared.sources.TypeId.{TypeId}

-- the ASN.1 modules, the ACN modules and the tables, each in the order of the files
pub record World : Type 0 where
  pub modules : List AsnModule
  pub acn : List Module
  pub tables : List MapTable

-- the trees of the program as a world
abbrev pub world_from : List tree.AsnModule → List acn_tree.AcnModule → List MapTable → World
world_from modules acn tables = record { modules = map module_view modules; acn = map module_of acn; tables = tables }

abbrev pub asn_modules : List AsnModules → List AsnModule
asn_modules files = flat_map (λ file. map module_view file.modules) files

abbrev pub acn_modules : List AcnModules → List Module
acn_modules files = flat_map modules_of files

abbrev pub map_tables : List MapTables → List MapTable
map_tables files = flat_map (λ file. file.tables) files

-- what the sources say
unfoldable pub world_of : Sources → World
world_of s = record { modules = asn_modules s.asn; acn = acn_modules s.acn; tables = map_tables s.maps }

-- ---- assignments

abbrev pub name_of : Assign → Name
name_of (TypeIs name t) = name
name_of (ValueIs name t v) = name

abbrev pub type_part : Assign → Option AsnType
type_part (TypeIs name t) = Some t
type_part (ValueIs name t v) = None

-- the type of a type's or of a value's assignment
abbrev pub type_of_assign : Assign → AsnType
type_of_assign (TypeIs name t) = t
type_of_assign (ValueIs name t v) = t

-- an assignment by its numbers
abbrev pub place : ℕ → ℕ → TypeId
place k i = record { «module» = k; item = i }

abbrev pub is_same : TypeId → TypeId → Bool
is_same p q = nat_eq p.module q.module && nat_eq p.item q.item

unfoldable pub assignment : World → TypeId → Option Assign
assignment w p = option_and_then (λ m. slice_get m.items p.item) (slice_get w.modules p.module)

-- the type that a place gives a name to; none where a value or nothing stands there
unfoldable pub type_at : World → TypeId → Option AsnType
type_at w p = option_and_then type_part (assignment w p)

-- a type stands there
abbrev pub IsType : World → TypeId → Type 0
IsType w p = IsSome (type_at w p)

-- the places of a module's assignments, and those of all modules, in the order of the text
abbrev pub module_places : ℕ × AsnModule → List TypeId
module_places m = map (λ (a : ℕ × Assign). place m.0 a.0) (enumerate_from 0 m.1.items)

unfoldable pub places : World → List TypeId
places w = flat_map module_places (enumerate_from 0 w.modules)

-- how many assignments there are
unfoldable pub count : World → ℕ
count w = length (flat_map (λ (m : AsnModule). m.items) w.modules)

-- modules and assignments can be numbered by 32 bits
abbrev pub IsSmall : World → Type 0
IsSmall w = length w.modules + count w < 4294967296
