use Rattle.std.proofs.Common.{drop}
use Rattle.std.specs.List.{flat_map}
use Rattle.acn_print.proofs.Joining.{Completes}
use Rattle.acn_report.specs.CheckTexts.{spaced_pair}
use Rattle.acn_report.proofs.check_lines.put_pairs.Given as goal

abbrev pub invariant-loop-pair : goal.invariant-loop-pair
invariant-loop-pair g l =
    Completes (flat_map (spaced_pair l.tree) l.pairs) (g.O.Sink.taken l.fn.out, g.O.Sink.faults l.fn.out) (flat_map (spaced_pair l.tree) (drop l.pair-index l.pairs)) (g.O.Sink.taken l.out, g.O.Sink.faults l.out)
