use Rattle.std.proofs.Common.{◌+◌, ◌-◌, ◌/◌, sym, ◌∙◌, arith}
use Rattle.acn_constraint.proofs.Borderline.{above_all, ended_at_most}
use Rattle.acn_constraint.proofs.borders.beginning_below.Goals as goal

pub loop-low-preserved-then-begins_above : goal.loop-low-preserved-then-begins_above
loop-low-preserved-then-begins_above c =
    let l = c.loop-low.low in
    let h = c.loop-low.high in
    let t = c.loop-low-test.true in
    let w = c.loop-low.invariant.within in
    record {
      order = omega arith;
      within = omega arith;
      above = above_all c.args.ranges.now (l + (h - l) / 2) _ c.args.x.now (omega arith) c.requires (sym c.begins_above.ensures ∙ c.if-begins_above.true);
      front = c.loop-low.invariant.front;
    }

pub loop-low-preserved : goal.loop-low-preserved
loop-low-preserved c =
    let l = c.loop-low.low in
    let h = c.loop-low.high in
    let t = c.loop-low-test.true in
    let w = c.loop-low.invariant.within in
    record {
      order = omega arith;
      within = w;
      above = c.loop-low.invariant.above;
      front = ended_at_most c.args.ranges.now (l + (h - l) / 2) _ c.args.x.now (omega arith) (sym c.begins_above.ensures ∙ c.if-begins_above.false);
    }
