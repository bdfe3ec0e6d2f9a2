use Rattle.std.proofs.Common.{ℕ, List, [], map, refl, sym, ◌∙◌}
use Rattle.std.specs.Prelude.{ℤ}
use Rattle.acn_grammar.specs.Asks.{same_name}
use Rattle.acn_leaf.proofs.Blocks.{keys_split, none_left, first_fails, passed_fails, passed_more, passed_all, begun}
use Rattle.acn_leaf.proofs.item_blocks.block_of_names_differs.Goals as goal

abbrev key : List ℕ × ℤ → List ℕ
key item = item.0

pub returns-then-not-both_names_differ : goal.returns-then-not-both_names_differ
returns-then-not-both_names_differ c = first_fails same_name (map key c.args.block.now) (map key c.args.behind.now) [] refl (sym c.both_names_differ.ensures ∙ c.if-not-both_names_differ.true)

pub returns-then-not-both_names_differ-2 : goal.returns-then-not-both_names_differ-2
returns-then-not-both_names_differ-2 c =
    passed_fails same_name (map key c.args.block.now) (map key c.args.behind.now) (map key c.loop-rest.rest.now) (map key c.split_at.result.0.now) (map key c.split_at.result.1.now)
    (keys_split key c.loop-rest.rest.now c.split_at.result.0.now c.split_at.result.1.now c.split_at.ensures.by_index.0)
    (sym c.both_names_differ-in-loop-rest.ensures ∙ c.if-not-both_names_differ-2.true) c.loop-rest.invariant

pub loop-rest-init : goal.loop-rest-init
loop-rest-init c = begun same_name (map key c.args.block.now) (map key c.args.behind.now) [] refl (sym c.both_names_differ.ensures ∙ c.if-not-both_names_differ.false)

pub loop-rest-preserved : goal.loop-rest-preserved
loop-rest-preserved c =
    passed_more same_name (map key c.args.block.now) (map key c.args.behind.now) (map key c.loop-rest.rest.now) (map key c.split_at.result.0.now) (map key c.split_at.result.1.now)
    (keys_split key c.loop-rest.rest.now c.split_at.result.0.now c.split_at.result.1.now c.split_at.ensures.by_index.0)
    (sym c.both_names_differ-in-loop-rest.ensures ∙ c.if-not-both_names_differ-2.false) c.loop-rest.invariant

pub returns : goal.returns
returns c =
    passed_all same_name (map key c.args.block.now) (map key c.args.behind.now) (map key c.loop-rest.rest.now) (none_left key c.is_empty.result c.loop-rest.rest.now c.is_empty.ensures c.loop-rest-test.false) c.loop-rest.invariant
