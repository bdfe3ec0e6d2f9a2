use Rattle.acn_check.proofs.Puts.{first_refused, second_refused, both_taken}
use Rattle.acn_check.proofs.overlaps.gather_both.Goals as goal

pub returns-then-not-first : goal.returns-then-not-first
returns-then-not-first c = first_refused c.args.one.now c.args.other.now c.in_ok-first.first _ _ c.new-values.ensures.items c.in_ok-first.ensures c.if-not-first.true

pub returns-then-not-second : goal.returns-then-not-second
returns-then-not-second c = second_refused c.args.one.now c.args.other.now c.in_ok-first.first c.in_ok-second.second _ _ _ c.new-values.ensures.items c.in_ok-first.ensures c.if-not-first.false c.in_ok-second.ensures c.if-not-second.true

pub returns : goal.returns
returns c = both_taken c.args.one.now c.args.other.now c.in_ok-first.first c.in_ok-second.second _ _ _ c.new-values.ensures.items c.in_ok-first.ensures c.if-not-first.false c.in_ok-second.ensures c.if-not-second.false
