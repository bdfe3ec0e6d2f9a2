use Rattle.std.proofs.Common.{◌+◌, ◌-◌, ◌/◌, sym, ◌∙◌, arith}
use Rattle.acn_constraint.proofs.Borderline.{below_all}
use Rattle.acn_constraint.proofs.borders.ending_below.Goals as goal

pub loop-low-preserved-then-ends_below : goal.loop-low-preserved-then-ends_below
loop-low-preserved-then-ends_below c =
    let l = c.loop-low.low in
    let h = c.loop-low.high in
    let t = c.loop-low-test.true in
    record {
      order = omega arith;
      within = c.loop-low.invariant.within;
      below = below_all c.args.ranges.now (l + (h - l) / 2) _ c.args.x.now (let w = c.loop-low.invariant.within in omega arith) c.requires (sym c.ends_below.ensures ∙ c.if-ends_below.true);
      rest = c.loop-low.invariant.rest;
    }
