use Rattle.acn_leaf.proofs.CodeLengths.{items-step, lengths-done, items-end}
use Rattle.acn_leaf.proofs.lengths.with_items.Goals as goal

pub loop-item-preserved : goal.loop-item-preserved
loop-item-preserved c =
    let l = c.loop-item in
    record {
      least = c.with_range-bounds.ensures.least;
      greatest = c.with_range-bounds.ensures.greatest;
      same = items-step c.args.coding.now c.args.items.now l.item-index c.item-item.result l.bounds _ _ c.loop-item-test.true c.item-item.is c.with_range-bounds.ensures.value l.invariant.same;
    }

pub returns-clause-value : goal.returns-clause-value
returns-clause-value c =
    let l = c.loop-item in
    lengths-done c.args.coding.now l.bounds _ _ l.invariant.least (items-end c.args.items.now l.item-index c.loop-item-test.false) l.invariant.same
