use Rattle.std.proofs.Common.{drop}
use Rattle.acn_print.proofs.Joining.{Completes}
use Rattle.acn_report.specs.Digits.{bits_text}
use Rattle.acn_report.proofs.digits.put_bits.Given as goal

abbrev pub invariant-loop-bit : goal.invariant-loop-bit
invariant-loop-bit g l =
    Completes (bits_text l.bits) (g.O.Sink.taken l.fn.out, g.O.Sink.faults l.fn.out) (bits_text (drop l.bit-index l.bits)) (g.O.Sink.taken l.out, g.O.Sink.faults l.out)
