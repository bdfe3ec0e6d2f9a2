use Rattle.std.proofs.Common.{◌≡◌, List, [], ◌∷◌, map, refl, ap, sym, ◌∙◌}
use Rattle.std.specs.Prelude.{ℤ}
use Rattle.std.specs.Ordering.{int_eq, int_cmp}
use Rattle.acn_grammar.specs.Leaves.{all_differ}
use Rattle.acn_leaf.proofs.Differ.{neighbours_say, by_numbers}
use Rattle.acn_leaf.specs.Neighbours.{neighbours_differ}
use Rattle.acn_leaf.proofs.numbers.numbers_differ.Goals as goal

themselves : (xs : List ℤ) → map (λ x. x) xs ≡ xs
themselves [] = refl
themselves (x ∷ xs) = ap (λ l. x ∷ l) (themselves xs)

pub returns : goal.returns
returns c =
    let say = neighbours_say int_cmp int_eq by_numbers (λ x. x) c.args.numbers.now c.sort_unstable.new.self c.sort_unstable.ensures.permutation c.sort_unstable.ensures.sorted in
    c.neighbours_differ.ensures ∙ (sym (ap (neighbours_differ int_eq) (themselves c.sort_unstable.new.self)) ∙ (say ∙ ap (all_differ int_eq) (themselves c.args.numbers.now)))
