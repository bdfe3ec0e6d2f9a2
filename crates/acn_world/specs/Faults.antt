-- The fault of the names of a world, and which of its types are roots.
use Rattle.std.specs.Prelude.{◌≡◌, ℕ, Bool, false, not, ◌&&◌, List, [], ◌∷◌, ◌++◌, filter, Option, Some, None, option_map, flat_map, filter_map, slice_get}
use Rattle.std.specs.List.{list_any}
use Rattle.acn_asn_syntax.specs.Mirror.{AsnModule, AsnType}
use Rattle.acn_acn_syntax.specs.Mirror.{Entry}
use Rattle.acn_num.specs.Names.{Name}
use Rattle.acn_index.specs.World.{World, name_of, assignment, places, is_same, type_at}
use Rattle.acn_index.specs.Lookup.{type_named, entry_at}
use Rattle.acn_index.specs.Chains.{Link, assigned_link, has_parameters}
use Rattle.acn_mentions.specs.Mentions.{AcnMention, of_parameter, of_field, to_table, entry_mentions, mentions}
use Rattle.acn_world.specs.Repeated.{repeats}
use Rattle.acn_world.specs.Unknown.{missing_modules, unknowns}
use Rattle.acn_world.specs.Cycles.{HasNoCycle, IsFirstCycle, wrong_kinds, type_targets}
use Rattle.acn_index.specs.declared.sources.TypeId.{TypeId}
use Rattle.acn_world.specs.declared.fault.NameFault.{NameFault}
use Rattle.acn_world.specs.declared.fault.NameFault.TheVariants as fault

abbrev pub first : {A : Type 0} → List A → Option A
first [] = None
first (x ∷ xs) = Some x

-- ---- the kinds in their order: repeated, no module, unknown, cycle, wrong kind

-- those before the cycles
unfoldable pub early_fault : World → Option NameFault
early_fault w = first (repeats w ++ (missing_modules w ++ unknowns w))

abbrev pub module_name_at : World → TypeId → Option Name
module_name_at w p = option_map (λ (m : AsnModule). m.name) (slice_get w.modules p.module)

abbrev pub name_at : World → TypeId → Option Name
name_at w p = option_map name_of (assignment w p)

-- the name of each place
abbrev pub names_at : World → List TypeId → List Name
names_at w way = filter_map (name_at w) way

-- the fault of a world
pub data IsFault (w : World) : NameFault → Type 0 where
  early : {f : NameFault} → early_fault w ≡ Some f → IsFault w f
  cyclic : {p : TypeId} {way : List TypeId} {owner name : Name} → early_fault w ≡ None → IsFirstCycle w p way → module_name_at w p ≡ Some owner → name_at w p ≡ Some name
      → IsFault w (fault.Cycle owner name (names_at w way))
  late : {f : NameFault} → early_fault w ≡ None → HasNoCycle w → first (wrong_kinds w) ≡ Some f → IsFault w f

-- a world without a fault: each name leads somewhere, none to itself, and each to what it must be
pub record IsSound (w : World) : Type 0 where
  pub early : early_fault w ≡ None
  pub acyclic : HasNoCycle w
  pub late : first (wrong_kinds w) ≡ None

-- ---- roots

abbrev pub entry_target : World → ℕ → AcnMention → Option TypeId
entry_target w k (of_parameter name) = type_named w k None name
entry_target w k (of_field name) = type_named w k None name
entry_target w k (to_table name) = None

abbrev pub entry_targets : World → ℕ → Option Entry → List TypeId
entry_targets w k None = []
entry_targets w k (Some e) = filter_map (entry_target w k) (entry_mentions e)

abbrev pub refers_from : World → TypeId → Option AsnType → List TypeId
refers_from w p None = []
refers_from w p (Some t) = type_targets w p.module (mentions t) ++ entry_targets w p.module (entry_at w p)

-- the other types to which a type refers: those in its text, and those that its ACN entry names
unfoldable pub refers_to : World → TypeId → List TypeId
refers_to w p = filter (λ q. not (is_same p q)) (refers_from w p (type_at w p))

unfoldable pub referred : World → List TypeId
referred w = flat_map (refers_to w) (places w)

abbrev pub is_without_parameters : World → Option Link → Bool
is_without_parameters w None = false
is_without_parameters w (Some l) = not (has_parameters w l)

-- a type without parameters to which no other type refers
unfoldable pub is_root : World → TypeId → Bool
is_root w p = is_without_parameters w (assigned_link w p) && not (list_any (is_same p) (referred w))

unfoldable pub roots : World → List TypeId
roots w = filter (is_root w) (places w)
