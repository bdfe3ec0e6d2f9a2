use Rattle.std.proofs.Common.{◌+◌, ◌-◌, ◌/◌, arith, sym, ◌∙◌}
use Rattle.acn_leaf.proofs.NearLines.{more_lines_before}
use Rattle.acn_leaf.proofs.near.lines_before.Goals as goal

pub loop-low-preserved-then-ends_before : goal.loop-low-preserved-then-ends_before
loop-low-preserved-then-ends_before c =
    let l = c.loop-low.low in
    let h = c.loop-low.high in
    let t = c.loop-low-test.true in
    let w = c.loop-low.invariant.within in
    record {
      order = omega arith;
      within = w;
      before = more_lines_before c.args.x.now c.args.lines.now (l + (h - l) / 2) _ (omega arith) c.requires.fine c.requires.rising (sym c.ends_before.ensures ∙ c.if-ends_before.true);
    }
