use Rattle.std.proofs.Common.{ℕ, List, map, ◌&&◌, sym, ap, ◌∙◌}
use Rattle.std.specs.Prelude.{ℤ}
use Rattle.std.specs.Ordering.{int_eq}
use Rattle.acn_grammar.specs.Leaves.{all_differ}
use Rattle.acn_leaf.proofs.Blocks.{keys_split}
use Rattle.acn_leaf.proofs.item_blocks.list_of_numbers_differs.Goals as goal

abbrev key : List ℕ × ℤ → ℤ
key item = item.1

pub returns-then-not-block_of_numbers_differs : goal.returns-then-not-block_of_numbers_differs
returns-then-not-block_of_numbers_differs c =
    let split = keys_split key c.loop-rest.rest.now c.split_at.result.0.now c.split_at.result.1.now c.split_at.ensures.by_index.0 in
    sym (sym c.loop-rest.invariant ∙ (ap (all_differ int_eq) split ∙ (c.block_of_numbers_differs.ensures ∙ ap (λ b. b && all_differ int_eq (map key c.split_at.result.1.now)) c.if-not-block_of_numbers_differs.true)))

pub loop-rest-preserved : goal.loop-rest-preserved
loop-rest-preserved c =
    let split = keys_split key c.loop-rest.rest.now c.split_at.result.0.now c.split_at.result.1.now c.split_at.ensures.by_index.0 in
    sym (c.block_of_numbers_differs.ensures ∙ ap (λ b. b && all_differ int_eq (map key c.split_at.result.1.now)) c.if-not-block_of_numbers_differs.false) ∙ (sym (ap (all_differ int_eq) split) ∙ c.loop-rest.invariant)
