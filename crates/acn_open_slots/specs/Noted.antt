-- Numbers of slots that are noted, each slot once. (This profile's own.)
use Rattle.std.specs.Prelude.{◌≡◌, ℕ, ◌<◌, ℤ, List, length, map, nat_eq, IsTrue, true, Option, Some, None}
use Rattle.acn_grammar.specs.Env.{Env, at_slot}
use Rattle.acn_grammar.specs.Leaves.{all_differ}
use Rattle.acn_grammar.specs.Tree.{holds}

abbrev pub OnceEach : Env → Type 0
OnceEach env = IsTrue (all_differ nat_eq (map (λ e. e.0) env))

-- where each number is that of a slot of the list, and a slot of the list has none, there are fewer numbers than slots
abbrev pub APlaceIsFree : Type 0
APlaceIsFree =
    (around : List ℕ) (env : Env) (slot : ℕ) → OnceEach env → ((s : ℕ) (x : ℤ) → at_slot env s ≡ Some x → holds around s ≡ true)
    → holds around slot ≡ true → at_slot env slot ≡ None → length env < length around
