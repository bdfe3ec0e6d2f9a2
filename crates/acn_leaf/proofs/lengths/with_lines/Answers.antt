use Rattle.acn_grammar.specs.Images.{clipped}
use Rattle.acn_leaf.proofs.CodeLengths.{pieces-step, lengths-done, pieces-end}
use Rattle.acn_leaf.proofs.lengths.with_lines.Goals as goal

pub loop-line-preserved : goal.loop-line-preserved
loop-line-preserved c =
    let l = c.loop-line in
    record {
      least = c.with_line-bounds.ensures.least;
      greatest = c.with_line-bounds.ensures.greatest;
      same = pieces-step c.args.coding.now (clipped c.args.range.now) c.args.lines.now l.line-index _ l.bounds _ _ c.loop-line-test.true c.with_line-bounds.ensures.value l.invariant.same;
    }

pub returns-clause-value : goal.returns-clause-value
returns-clause-value c =
    let l = c.loop-line in
    lengths-done c.args.coding.now l.bounds _ _ l.invariant.least (pieces-end (clipped c.args.range.now) c.args.lines.now l.line-index c.loop-line-test.false) l.invariant.same
