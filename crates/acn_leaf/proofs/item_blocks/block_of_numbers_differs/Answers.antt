use Rattle.std.proofs.Common.{ℕ, List, [], map, refl, sym, ◌∙◌}
use Rattle.std.specs.Prelude.{ℤ}
use Rattle.std.specs.Ordering.{int_eq}
use Rattle.acn_leaf.proofs.Blocks.{keys_split, none_left, first_fails, passed_fails, passed_more, passed_all, begun}
use Rattle.acn_leaf.proofs.item_blocks.block_of_numbers_differs.Goals as goal

abbrev key : List ℕ × ℤ → ℤ
key item = item.1

pub returns-then-not-both_numbers_differ : goal.returns-then-not-both_numbers_differ
returns-then-not-both_numbers_differ c = first_fails int_eq (map key c.args.block.now) (map key c.args.behind.now) [] refl (sym c.both_numbers_differ.ensures ∙ c.if-not-both_numbers_differ.true)

pub returns-then-not-both_numbers_differ-2 : goal.returns-then-not-both_numbers_differ-2
returns-then-not-both_numbers_differ-2 c =
    passed_fails int_eq (map key c.args.block.now) (map key c.args.behind.now) (map key c.loop-rest.rest.now) (map key c.split_at.result.0.now) (map key c.split_at.result.1.now)
    (keys_split key c.loop-rest.rest.now c.split_at.result.0.now c.split_at.result.1.now c.split_at.ensures.by_index.0)
    (sym c.both_numbers_differ-in-loop-rest.ensures ∙ c.if-not-both_numbers_differ-2.true) c.loop-rest.invariant

pub loop-rest-init : goal.loop-rest-init
loop-rest-init c = begun int_eq (map key c.args.block.now) (map key c.args.behind.now) [] refl (sym c.both_numbers_differ.ensures ∙ c.if-not-both_numbers_differ.false)

pub loop-rest-preserved : goal.loop-rest-preserved
loop-rest-preserved c =
    passed_more int_eq (map key c.args.block.now) (map key c.args.behind.now) (map key c.loop-rest.rest.now) (map key c.split_at.result.0.now) (map key c.split_at.result.1.now)
    (keys_split key c.loop-rest.rest.now c.split_at.result.0.now c.split_at.result.1.now c.split_at.ensures.by_index.0)
    (sym c.both_numbers_differ-in-loop-rest.ensures ∙ c.if-not-both_numbers_differ-2.false) c.loop-rest.invariant

pub returns : goal.returns
returns c =
    passed_all int_eq (map key c.args.block.now) (map key c.args.behind.now) (map key c.loop-rest.rest.now) (none_left key c.is_empty.result c.loop-rest.rest.now c.is_empty.ensures c.loop-rest-test.false) c.loop-rest.invariant
