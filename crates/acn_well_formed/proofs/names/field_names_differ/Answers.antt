use Rattle.std.proofs.Common.{◌&&◌, sym, ap, ◌∙◌}
use Rattle.acn_grammar.specs.Asks.{same_name}
use Rattle.acn_grammar.specs.Leaves.{all_differ}
use Rattle.acn_well_formed.proofs.Blocks.{names, names_split}
use Rattle.acn_well_formed.proofs.names.field_names_differ.Goals as goal

pub returns-then-not-field_block_differs : goal.returns-then-not-field_block_differs
returns-then-not-field_block_differs c =
    let split = names_split c.loop-rest.rest.now c.split_at.result.0.now c.split_at.result.1.now c.split_at.ensures.by_index.0 in
    sym (sym c.loop-rest.invariant ∙ (ap (all_differ same_name) split ∙ (c.field_block_differs.ensures ∙ ap (λ b. b && all_differ same_name (names c.split_at.result.1.now)) c.if-not-field_block_differs.true)))

pub loop-rest-preserved : goal.loop-rest-preserved
loop-rest-preserved c =
    let split = names_split c.loop-rest.rest.now c.split_at.result.0.now c.split_at.result.1.now c.split_at.ensures.by_index.0 in
    sym (c.field_block_differs.ensures ∙ ap (λ b. b && all_differ same_name (names c.split_at.result.1.now)) c.if-not-field_block_differs.false) ∙ (sym (ap (all_differ same_name) split) ∙ c.loop-rest.invariant)
