-- The steps along imports, along references of values and along references of types, from place to place.
use Rattle.std.specs.Prelude.{◌≡◌, ℕ, ◌+◌, ◌<◌, cond, is_some, List, Option, Some, None, option_and_then, option_map, slice_get, map}
use Rattle.std.specs.Borrow.{Bor}
use Rattle.acn_num.specs.Names.{Name}
use Rattle.acn_num.specs.declared.name.Name as tree
use Rattle.acn_ends.specs.declared.spot.Spot.{Spot}
use Rattle.acn_ends.specs.declared.spot.End.{End}
use Rattle.acn_ends.specs.declared.spot.End.TheVariants as end
use Rattle.acn_ends.specs.declared.ends.Ends.{Ends}
use Rattle.acn_ends.specs.Ends.{end_of, AreRight}
use Rattle.acn_firsts.specs.Placed.{place_of}
use Rattle.acn_index.specs.World.{World, place, count}
use Rattle.acn_index.specs.Lookup.{is_named, own, imported_from, found_within, value_named}
use Rattle.acn_index.specs.Sorts.{meant}
use Rattle.acn_index.specs.Values.{Worth, worth_at, refers}
use Rattle.acn_index.specs.Chains.{Link, assigned_link, next_link}
use Rattle.acn_index.specs.declared.lookup.Sort.{Sort}
use Rattle.acn_index.specs.declared.sources.TypeId.{TypeId}

abbrev pub spot : ℕ → ℕ → Spot
spot k i = record { group = k; item = i }

-- ---- assignments

abbrev pub spot_of : TypeId → Spot
spot_of p = spot p.module p.item

abbrev pub place_at : Spot → TypeId
place_at s = place s.group s.item

-- to the value that a value is a reference to
abbrev pub value_onward : World → Worth → Option Spot
value_onward w x = option_and_then (λ (name : Name). option_map spot_of (value_named w x.owner name)) (refers x.is)

unfoldable pub value_step : World → Spot → Option Spot
value_step w s = option_and_then (value_onward w) (worth_at w (place_at s))

-- to the type that a type is a reference to
abbrev pub link_spot : Link → Option Spot
link_spot l = option_map spot_of l.assigned

abbrev pub link_onward : World → Link → Option Spot
link_onward w l = option_and_then link_spot (next_link w l)

unfoldable pub type_step : World → Spot → Option Spot
type_step w s = option_and_then (link_onward w) (assigned_link w (place_at s))

-- the assigned type at which steps end, where they are fewer than there are assignments
abbrev pub IsEndLink : World → End → Link → Type 0
IsEndLink w (end.At s n) l = (n < count w) × (assigned_link w (place_at s) ≡ Some l)
IsEndLink w end.Never l = ⊥

-- ---- imports of names that are numbered: the group is a module, and the item the number of a name

-- from a module that has no assignment of the name to the one from which it imports it
abbrev pub import_onward : World → Spot → Name → Option Spot
import_onward w s q = cond (is_some (own w (is_named q) s.group)) None (option_map (λ (k : ℕ). spot k s.item) (imported_from w q s.group))

unfoldable pub import_step : World → List Name → Spot → Option Spot
import_step w names s = option_and_then (import_onward w s) (slice_get names s.item)

abbrev pub names_view : List (Bor tree.Name) → List Name
names_view names = map (λ (n : Bor tree.Name). n.now) names

-- each name that is noted has its number
abbrev pub AreNumbered : List (Name × ℕ) → List Name → Type 0
AreNumbered numbers names = (q : Name) (x : ℕ) → place_of q numbers ≡ Some x → slice_get names x ≡ Some q

-- a name leads in a module to what it leads to in another, by so many modules more
abbrev pub IsJump : World → Name → ℕ → ℕ → ℕ → Type 0
IsJump w q n k j = (sort : Sort) (m : ℕ) → found_within (n + m) w (meant sort q) q k ≡ found_within m w (meant sort q) q j

-- it leads nowhere
abbrev pub IsLost : World → Name → ℕ → Type 0
IsLost w q k = (sort : Sort) (m : ℕ) → found_within m w (meant sort q) q k ≡ None

-- so it is for an end
abbrev pub JumpsTo : World → Name → ℕ → End → Type 0
JumpsTo w q k (end.At s n) = IsJump w q n k s.group
JumpsTo w q k end.Never = IsLost w q k

abbrev pub AreJumps : World → List (Name × ℕ) → Ends → Type 0
AreJumps w numbers jumps = ((q : Name) (x k n : ℕ) (s : Spot) → place_of q numbers ≡ Some x → end_of jumps (spot k x) ≡ Some (end.At s n) → IsJump w q n k s.group)
    × ((q : Name) (x k : ℕ) → place_of q numbers ≡ Some x → end_of jumps (spot k x) ≡ Some end.Never → IsLost w q k)

-- ---- what an index keeps of them

abbrev pub AreLasts : World → Ends → Type 0
AreLasts w ends = AreRight (value_step w) ends

abbrev pub AreBases : World → Ends → Type 0
AreBases w ends = AreRight (type_step w) ends
