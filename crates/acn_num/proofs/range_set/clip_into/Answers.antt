use Rattle.std.proofs.Common.{sym, ◌∙◌}
use Rattle.acn_num.proofs.Meeting.{until_turn, until_stops, until_done}
use Rattle.acn_num.proofs.range_set.clip_into.Goals as goal

pub loop-other-preserved : goal.loop-other-preserved
loop-other-preserved c =
    until_turn c.args.range.now c.args.others.now c.loop-other.ranges.items c.add.new.ranges.items _ c.loop-other.other-index c.loop-other-test.true (sym c.begins_behind.ensures ∙ c.if-begins_behind.false)
    (let added = c.in_ok-add.ensures {u = tt} in let low = c.greater.ensures in let high = c.less.ensures in cc) c.loop-other.invariant

pub returns-then-begins_behind : goal.returns-then-begins_behind
returns-then-begins_behind c = until_stops c.args.range.now c.args.others.now c.loop-other.ranges.items _ c.loop-other.other-index c.loop-other-test.true (sym c.begins_behind.ensures ∙ c.if-begins_behind.true) c.loop-other.invariant

pub returns : goal.returns
returns c = until_done c.args.range.now c.args.others.now c.loop-other.ranges.items _ c.loop-other.other-index c.loop-other-test.false c.loop-other.invariant
