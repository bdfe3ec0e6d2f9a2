use Rattle.std.proofs.Common.{◌+◌, ◌-◌, ◌/◌, arith, sym, ◌∙◌}
use Rattle.acn_leaf.proofs.Rising.{more_before, more_behind, found, none_of_them}
use Rattle.acn_leaf.proofs.line_blocks.meets_one.Goals as goal

pub loop-low-preserved-then-is_before : goal.loop-low-preserved-then-is_before
loop-low-preserved-then-is_before c =
    let l = c.loop-low.low in
    let h = c.loop-low.high in
    let t = c.loop-low-test.true in
    more_before c.args.range.now c.args.ranges.now l h (l + (h - l) / 2) _ (record { each = c.requires.each; rising = c.requires.rising }) c.loop-low.invariant (omega arith)
    (sym c.is_before.ensures ∙ c.if-is_before.true)

pub loop-low-preserved : goal.loop-low-preserved
loop-low-preserved c =
    let l = c.loop-low.low in
    let h = c.loop-low.high in
    let t = c.loop-low-test.true in
    more_behind c.args.range.now c.args.ranges.now l h (l + (h - l) / 2) _ (record { each = c.requires.each; rising = c.requires.rising }) c.loop-low.invariant (omega arith) (omega arith)
    (sym c.is_before-else-is_before.ensures ∙ c.if-is_before-2.true)

pub returns-else-is_before-2 : goal.returns-else-is_before-2
returns-else-is_before-2 c =
    let l = c.loop-low.low in
    let h = c.loop-low.high in
    let t = c.loop-low-test.true in
    let w = c.loop-low.invariant.within in
    found c.args.range.now c.args.ranges.now (l + (h - l) / 2) _ (omega arith) (sym c.is_before.ensures ∙ c.if-is_before.false) (sym c.is_before-else-is_before.ensures ∙ c.if-is_before-2.false)

pub returns : goal.returns
returns c = (let t = c.loop-low-test.false in none_of_them c.args.range.now c.args.ranges.now c.loop-low.low c.loop-low.high c.loop-low.invariant (omega arith))
