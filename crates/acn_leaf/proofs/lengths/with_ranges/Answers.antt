use Rattle.std.proofs.lemmas.List.{drop_all}
use Rattle.acn_leaf.proofs.CodeLengths.{ranges-step, lengths-done}
use Rattle.acn_leaf.proofs.lengths.with_ranges.Goals as goal

pub loop-range-preserved : goal.loop-range-preserved
loop-range-preserved c =
    let l = c.loop-range in
    record {
      least = c.with_range-bounds.ensures.least;
      greatest = c.with_range-bounds.ensures.greatest;
      same = ranges-step c.args.coding.now c.args.ranges.now l.range-index _ l.bounds _ _ c.loop-range-test.true c.with_range-bounds.ensures.value l.invariant.same;
    }

pub returns-clause-value : goal.returns-clause-value
returns-clause-value c =
    let l = c.loop-range in
    lengths-done c.args.coding.now l.bounds _ _ l.invariant.least (drop_all l.range-index c.args.ranges.now c.loop-range-test.false) l.invariant.same
