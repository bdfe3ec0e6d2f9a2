use Rattle.std.proofs.Common.{◌≡◌, ℕ, ℤ, List, [], drop, map, not}
use Rattle.acn_check.specs.Program.{cases_of}
use Rattle.acn_firsts.specs.Placed.{noted_all}
use Rattle.acn_grammar.specs.Check.{no_item}
use Rattle.acn_check.specs.First.{first_of, only_if, is_item, first_without}
use Rattle.acn_check.proofs.choices.each_is_named.Given as goal

abbrev pub invariant-loop-at : goal.invariant-loop-at
invariant-loop-at l = (items : List (List ℕ × ℤ)) → l.names ≡ noted_all [] (map (λ item. (item.0, 0)) items)
    → first_of (λ i c. only_if (not (is_item items c.0)) (no_item l.path i)) l.at (cases_of (drop l.at l.alternatives)) ≡ first_without items l.path (cases_of l.alternatives)
