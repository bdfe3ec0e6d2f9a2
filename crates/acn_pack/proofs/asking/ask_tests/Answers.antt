use Rattle.std.proofs.Common.{[], drop, map, arith}
use Rattle.acn_events.specs.Events.{test_event}
use Rattle.acn_pack.proofs.Fields.{no_item}
use Rattle.acn_pack.proofs.Ways.{begin, each_on, each_stops, ended, left_as}
use Rattle.acn_pack.proofs.asking.ask_tests.Goals as goal

pub loop-test-init : goal.loop-test-init
loop-test-init g c = record { done = λ path. begin (map (test_event path c.args.there) c.args.tests.now) c.args.w.now }

pub loop-test-preserved : goal.loop-test-preserved
loop-test-preserved g c =
    let l = c.loop-test in
    record { done = λ path. each_on (test_event path c.args.there) c.args.tests.now l.test-index _ c.args.w.now l.w c.loop-test-test.true (l.invariant.done path) c.ask_test.new.w (c.in_ok-ask_test.ensures path) }

pub returns-in_err-ask_test : goal.returns-in_err-ask_test
returns-in_err-ask_test g c = λ path.
    let l = c.loop-test in
    each_stops (test_event path c.args.there) c.args.tests.now l.test-index _ c.args.w.now l.w c.loop-test-test.true (l.invariant.done path) path c.ask_test.new.w c.ask_test.new.why c.in_err-ask_test.field-0.0 c.from_residual.result c.from_residual.ensures.1 (c.in_err-ask_test.ensures path)

pub returns : goal.returns
returns g c = λ path.
    let l = c.loop-test in
    let event = test_event path c.args.there in
    let xs = c.args.tests.now in
    let over = c.loop-test-test.false in
    ended (map event xs) c.args.w.now l.w (left_as (map event xs) (map event (drop l.test-index xs)) [] c.args.w.now l.w (no_item event l.test-index xs (omega (arith, over))) (l.invariant.done path))
