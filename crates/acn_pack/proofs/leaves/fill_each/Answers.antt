use Rattle.std.proofs.Common.{[], drop, map, arith}
use Rattle.acn_events.specs.Event.{fills}
use Rattle.acn_pack.proofs.Fields.{no_item}
use Rattle.acn_pack.proofs.Ways.{begin, came, each_on, each_stops, ended, halted, left_as}
use Rattle.acn_pack.proofs.leaves.fill_each.Goals as goal

pub loop-slot-init : goal.loop-slot-init
loop-slot-init g c = record { done = begin (map fills c.args.home.now) c.args.w.now }

pub loop-slot-preserved : goal.loop-slot-preserved
loop-slot-preserved g c =
    let l = c.loop-slot in
    record { done = each_on fills c.args.home.now l.slot-index _ c.args.w.now l.w c.loop-slot-test.true l.invariant.done c.fill.new.self (came (fills _) l.w c.fill.new.self c.in_ok-fill.ensures.ran) }

pub returns-in_err-fill : goal.returns-in_err-fill
returns-in_err-fill g c = λ path.
    let l = c.loop-slot in
    each_stops fills c.args.home.now l.slot-index _ c.args.w.now l.w c.loop-slot-test.true l.invariant.done path c.fill.new.self c.fill.new.why c.in_err-fill.field-0.0 c.from_residual.result c.from_residual.ensures.1 (halted (fills _) l.w c.fill.new.self path c.fill.new.why c.in_err-fill.ensures.halted)

pub returns : goal.returns
returns g c = λ path.
    let l = c.loop-slot in
    let xs = c.args.home.now in
    let over = c.loop-slot-test.false in
    ended (map fills xs) c.args.w.now l.w (left_as (map fills xs) (map fills (drop l.slot-index xs)) [] c.args.w.now l.w (no_item fills l.slot-index xs (omega (arith, over))) l.invariant.done)
