use Rattle.std.proofs.Common.{drop}
use Rattle.std.specs.List.{flat_map}
use Rattle.acn_print.proofs.Joining.{Completes}
use Rattle.acn_layout.specs.Layout.{test_text}
use Rattle.acn_layout.proofs.tag.put_tests.Given as goal

abbrev pub invariant-loop-test : goal.invariant-loop-test
invariant-loop-test g l =
    Completes (flat_map (test_text l.tree) l.tests) (g.O.Sink.taken l.fn.out, g.O.Sink.faults l.fn.out) (flat_map (test_text l.tree) (drop l.test-index l.tests)) (g.O.Sink.taken l.out, g.O.Sink.faults l.out)
