-- What the walk over the fields of a SEQUENCE has gathered, and what is left of it. (This profile's own.)
use Rattle.std.specs.Prelude.{◌≡◌, ℕ, ℤ, suc, ◌≤◌, List, ◌++◌, length, drop, map, Option}
use Rattle.acn_grammar.specs.Asks.{FieldPaths, fields_moments, Moment as Moment_data}
use Rattle.acn_grammar.specs.Grammar.{Grammar, Fields, Places}
use Rattle.acn_grammar.specs.View.{places_view}
use Rattle.acn_grammar.specs.declared.value.Value.{Value}
use Rattle.acn_asks.specs.declared.moments.Moment.{Moment}
use Rattle.acn_asking.specs.Gathered.{with_numbers, with_domain}
use Rattle.acn_gather_laws.specs.CanGather.{CanGatherFields}

-- What was gathered, and what fields ask from here on: the next field has the number k.
abbrev pub Left : (root : Grammar) → Fields → FieldPaths → (path : List ℕ) → (k : ℕ) → Places → (gathered : List Moment) → List (Moment_data × List (ℤ × ℤ))
Left root fs paths path k ps gathered = map with_numbers gathered ++ map (with_domain root) (fields_moments root fs paths path k ps)

-- A field was gone through, and these are left, whose next place this is.
pub record Onward (root : Grammar) (all rest : Fields) (around : List ℕ) (paths : FieldPaths) (path : List ℕ) (k : ℕ) (places : List (Option Value)) (at next : ℕ) (old new : List Moment) : Type 0 where
  pub within : next ≤ length places
  pub later : CanGatherFields root (suc (length path)) around rest (places_view (drop next places))
  pub same : Left root rest paths path (suc k) (places_view (drop next places)) new ≡ Left root all paths path k (places_view (drop at places)) old
