use Rattle.std.proofs.Common.{sym, ◌∙◌, ◌++◌, map, ap}
use Rattle.std.proofs.lemmas.List.{drop_all, append-nil}
use Rattle.std.specs.List.{list_all}
use Rattle.acn_leaf.specs.Sides.{range_of, is_range}
use Rattle.acn_leaf.proofs.Sides.{ranges_fine}
use Rattle.acn_leaf.proofs.line_blocks.block_differs.Goals as goal

pub ranges_differ-requires-clause-each : goal.ranges_differ-requires-clause-each
ranges_differ-requires-clause-each c =
    let none = drop_all c.loop-line.line-index c.args.block.now c.loop-line-test.false in
    let all = c.as_mut_slice.ensures.value ∙ (sym (append-nil c.loop-line.ranges.items) ∙ (sym (ap (λ l. c.loop-line.ranges.items ++ map (range_of c.args.side) l) none) ∙ c.loop-line.invariant.whole)) in
    ap (list_all is_range) all ∙ ranges_fine c.args.side c.args.block.now c.requires.block
