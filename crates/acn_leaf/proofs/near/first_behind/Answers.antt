use Rattle.std.proofs.Common.{◌+◌, ◌-◌, ◌/◌, arith, sym, ◌∙◌}
use Rattle.acn_leaf.proofs.NearLines.{more_lines_behind}
use Rattle.acn_leaf.proofs.near.first_behind.Goals as goal

pub loop-low-preserved-then-begins_behind : goal.loop-low-preserved-then-begins_behind
loop-low-preserved-then-begins_behind c =
    let l = c.loop-low.low in
    let h = c.loop-low.high in
    let t = c.loop-low-test.true in
    let w = c.loop-low.invariant.within in
    record {
      order = omega arith;
      within = omega arith;
      behind = more_lines_behind c.args.x.now c.args.lines.now (l + (h - l) / 2) _ (omega arith) c.requires.fine c.requires.rising (sym c.begins_behind.ensures ∙ c.if-begins_behind.true);
    }
