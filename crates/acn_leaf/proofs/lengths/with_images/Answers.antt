use Rattle.std.proofs.Common.{ℤ, List, ap, ◌∙◌}
use Rattle.acn_grammar.specs.Interval.{hull, lengths_of}
use Rattle.std.specs.List.{flat_map}
use Rattle.acn_grammar.specs.Images.{clipped}
use Rattle.acn_leaf.proofs.CodeLengths.{pieces-step, lengths-done, pieces-end}
use Rattle.acn_leaf.proofs.lengths.with_images.Goals as goal

pub loop-range-preserved : goal.loop-range-preserved
loop-range-preserved c =
    let l = c.loop-range in
    record {
      least = c.with_lines-bounds.ensures.least;
      greatest = c.with_lines-bounds.ensures.greatest;
      same = pieces-step c.args.coding.now (λ (r : ℤ × ℤ). flat_map (clipped r) c.args.lines.now) c.args.ranges.now l.range-index _ l.bounds _ _ c.loop-range-test.true (c.with_lines-bounds.ensures.value ∙ ap (λ (z : List (ℤ × ℤ)). hull l.bounds (lengths_of c.args.coding.now z)) c.near-close.ensures.images) l.invariant.same;
    }

pub returns-clause-value : goal.returns-clause-value
returns-clause-value c =
    let l = c.loop-range in
    lengths-done c.args.coding.now l.bounds _ _ l.invariant.least (pieces-end (λ (r : ℤ × ℤ). flat_map (clipped r) c.args.lines.now) c.args.ranges.now l.range-index c.loop-range-test.false) l.invariant.same
