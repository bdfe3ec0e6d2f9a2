-- What every value that is made keeps.
use Rattle.std.specs.Prelude.{ℕ, Bool, true, false, IsTrue, []}
use Rattle.std.specs.List.{list_all}
use Rattle.acn_grammar.specs.Grammar.{Grammar, Data}
use Rattle.acn_tree.specs.Made.{made}
use Rattle.acn_grammar.specs.Meets.{Why, Unfit, terminator_inside, breaches}
use Rattle.acn_grammar.specs.Shaped.{Shaped}
use Rattle.acn_grammar.specs.Tree.{IsTree}

abbrev pub is_end_inside : Why → Bool
is_end_inside (terminator_inside index) = true
is_end_inside _ = false

-- the value has the form of the node and meets its constraints, but that terminators may stand inside its texts
pub record MeetsButForEnds (g : Grammar) (d : Data) : Type 0 where
  pub shaped : Shaped g d
  pub others : IsTrue (list_all (λ (u : Unfit). is_end_inside u.why) (breaches [] g d))

-- whatever number is begun with
abbrev pub EachMadeValueMeets : Type 0
EachMadeValueMeets = (root : Grammar) (start : ℕ) → IsTree root → MeetsButForEnds root (made root start).value
