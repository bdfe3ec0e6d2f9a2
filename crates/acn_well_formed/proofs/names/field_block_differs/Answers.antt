use Rattle.std.proofs.Common.{[], refl, sym, ◌∙◌}
use Rattle.acn_leaf.proofs.Blocks.{first_fails, passed_fails, passed_more, passed_all, begun}
use Rattle.acn_grammar.specs.Asks.{same_name}
use Rattle.acn_well_formed.proofs.Blocks.{names, names_split, none_left}
use Rattle.acn_well_formed.proofs.names.field_block_differs.Goals as goal

pub returns-then-not-both_fields_differ : goal.returns-then-not-both_fields_differ
returns-then-not-both_fields_differ c = first_fails same_name (names c.args.block.now) (names c.args.behind.now) [] refl (sym c.both_fields_differ.ensures ∙ c.if-not-both_fields_differ.true)

pub returns-then-not-both_fields_differ-2 : goal.returns-then-not-both_fields_differ-2
returns-then-not-both_fields_differ-2 c =
    passed_fails same_name (names c.args.block.now) (names c.args.behind.now) (names c.loop-rest.rest.now) (names c.split_at.result.0.now) (names c.split_at.result.1.now)
    (names_split c.loop-rest.rest.now c.split_at.result.0.now c.split_at.result.1.now c.split_at.ensures.by_index.0)
    (sym c.both_fields_differ-in-loop-rest.ensures ∙ c.if-not-both_fields_differ-2.true) c.loop-rest.invariant

pub loop-rest-init : goal.loop-rest-init
loop-rest-init c = begun same_name (names c.args.block.now) (names c.args.behind.now) [] refl (sym c.both_fields_differ.ensures ∙ c.if-not-both_fields_differ.false)

pub loop-rest-preserved : goal.loop-rest-preserved
loop-rest-preserved c =
    passed_more same_name (names c.args.block.now) (names c.args.behind.now) (names c.loop-rest.rest.now) (names c.split_at.result.0.now) (names c.split_at.result.1.now)
    (names_split c.loop-rest.rest.now c.split_at.result.0.now c.split_at.result.1.now c.split_at.ensures.by_index.0)
    (sym c.both_fields_differ-in-loop-rest.ensures ∙ c.if-not-both_fields_differ-2.false) c.loop-rest.invariant

pub returns : goal.returns
returns c =
    passed_all same_name (names c.args.block.now) (names c.args.behind.now) (names c.loop-rest.rest.now) (none_left c.is_empty.result c.loop-rest.rest.now c.is_empty.ensures c.loop-rest-test.false) c.loop-rest.invariant
