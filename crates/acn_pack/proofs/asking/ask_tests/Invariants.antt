use Rattle.std.proofs.Common.{ℕ, List, drop, map}
use Rattle.acn_events.specs.Events.{test_event}
use Rattle.acn_pack.specs.Packs.{GoesOn}
use Rattle.acn_pack.proofs.asking.ask_tests.Given as goal

abbrev pub invariant-loop-test : goal.invariant-loop-test
invariant-loop-test g l = record {
  done : (path : List ℕ) → GoesOn (map (test_event path l.there) l.tests) (map (test_event path l.there) (drop l.test-index l.tests)) l.fn.w l.w;
}
