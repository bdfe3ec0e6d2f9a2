-- What the walk has gathered, and which slots are at home round the place where it stands. (This profile's own.)
use Rattle.std.specs.Prelude.{◌≡◌, ℕ, ℤ, List, [], ◌∷◌, ◌++◌, map, Some}
use Rattle.std.specs.List.{AllByRecursion}
use Rattle.acn_grammar.specs.Asks as asks
use Rattle.acn_grammar.specs.Asks.{FieldPaths}
use Rattle.acn_grammar.specs.Grammar.{Grammar}
use Rattle.acn_grammar.specs.Slots.{domain_of, slot_leaf}
use Rattle.acn_asks.specs.Moments.{moment_of}
use Rattle.acn_asks.specs.declared.moments.Moment.{Moment}
use Rattle.acn_asks.specs.declared.moments.Moment.TheVariants as moment
use Rattle.acn_determinants.specs.declared.homes.Determinant.{Determinant}
use Rattle.acn_asking.specs.declared.opened.Open.{Open}

-- Where their fields are, those of the nearest SEQUENCE first. What was opened last stands last in the list that is kept.
abbrev pub paths_of : List Open → FieldPaths
paths_of [] = []
paths_of (o ∷ os) = paths_of os ++ (o.slot, o.field) ∷ []

abbrev pub slots_of : List Open → List ℕ
slots_of os = map (λ e. e.0) (paths_of os)

-- the leaf of each is the slot's
abbrev pub LeavesIn : (root : Grammar) → List Open → Type 0
LeavesIn root os = AllByRecursion (λ o. slot_leaf root o.slot ≡ Some o.leaf.now) os

-- the field of a determinant, in the SEQUENCE at a path
abbrev pub at_path : List ℕ → Determinant → ℕ × List ℕ
at_path path d = (d.slot, path ++ d.steps)

-- slots were opened whose fields are at these paths
pub record Opened (own : FieldPaths) (IsIn : Grammar → Type 0) (old new : List Open) : Type 0 where
  pub added : List Open
  pub is : new ≡ old ++ added
  pub paths : paths_of added ≡ own
  pub leaves : (root : Grammar) → IsIn root → LeavesIn root added

-- a moment with the numbers that its slot permits
abbrev pub with_numbers : Moment → asks.Moment × List (ℤ × ℤ)
with_numbers (moment.Asks path field slot set wanted) = (moment_of (moment.Asks path field slot set wanted), set.now)
with_numbers (moment.Counts path octets sizing) = (moment_of (moment.Counts path octets sizing), [])

abbrev pub with_domain : (root : Grammar) → asks.Moment → asks.Moment × List (ℤ × ℤ)
with_domain root (asks.asks path field s a) = (asks.asks path field s a, domain_of root s)
with_domain root (asks.counts path n sizing) = (asks.counts path n sizing, [])

-- these moments were gathered behind those before
abbrev pub Gathers : (root : Grammar) → List asks.Moment → (old new : List Moment) → Type 0
Gathers root ms old new = map with_numbers new ≡ map with_numbers old ++ map (with_domain root) ms
