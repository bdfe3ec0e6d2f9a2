use Rattle.std.proofs.Common.{ℕ, List, map, ◌&&◌, sym, ap, ◌∙◌}
use Rattle.std.specs.Prelude.{ℤ}
use Rattle.acn_grammar.specs.Asks.{same_name}
use Rattle.acn_grammar.specs.Leaves.{all_differ}
use Rattle.acn_leaf.proofs.Blocks.{keys_split}
use Rattle.acn_leaf.proofs.item_blocks.list_of_names_differs.Goals as goal

abbrev key : List ℕ × ℤ → List ℕ
key item = item.0

pub returns-then-not-block_of_names_differs : goal.returns-then-not-block_of_names_differs
returns-then-not-block_of_names_differs c =
    let split = keys_split key c.loop-rest.rest.now c.split_at.result.0.now c.split_at.result.1.now c.split_at.ensures.by_index.0 in
    sym (sym c.loop-rest.invariant ∙ (ap (all_differ same_name) split ∙ (c.block_of_names_differs.ensures ∙ ap (λ b. b && all_differ same_name (map key c.split_at.result.1.now)) c.if-not-block_of_names_differs.true)))

pub loop-rest-preserved : goal.loop-rest-preserved
loop-rest-preserved c =
    let split = keys_split key c.loop-rest.rest.now c.split_at.result.0.now c.split_at.result.1.now c.split_at.ensures.by_index.0 in
    sym (c.block_of_names_differs.ensures ∙ ap (λ b. b && all_differ same_name (map key c.split_at.result.1.now)) c.if-not-block_of_names_differs.false) ∙ (sym (ap (all_differ same_name) split) ∙ c.loop-rest.invariant)
