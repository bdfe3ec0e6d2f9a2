use Rattle.std.proofs.Common.{length}
use Rattle.acn_print.proofs.Joining.{Completes}
use Rattle.acn_report.specs.Digits.{hex_text}
use Rattle.acn_report.proofs.digits.put_hex.Given as goal

abbrev pub invariant-loop-rest : goal.invariant-loop-rest
invariant-loop-rest g l =
    Completes (hex_text l.bits) (g.O.Sink.taken l.fn.out, g.O.Sink.faults l.fn.out) (hex_text l.rest) (g.O.Sink.taken l.out, g.O.Sink.faults l.out)

abbrev pub decreases-loop-rest : goal.decreases-loop-rest
decreases-loop-rest g l = length l.rest
