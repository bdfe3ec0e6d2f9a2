use Rattle.std.proofs.Common.{drop}
use Rattle.std.specs.List.{flat_map}
use Rattle.acn_print.proofs.Joining.{Completes}
use Rattle.acn_report.specs.Parts.{part_text}
use Rattle.acn_report.proofs.part.put_parts.Given as goal

abbrev pub invariant-loop-part : goal.invariant-loop-part
invariant-loop-part g l =
    Completes (flat_map part_text l.parts) (g.O.Sink.taken l.fn.out, g.O.Sink.faults l.fn.out) (flat_map part_text (drop l.part-index l.parts)) (g.O.Sink.taken l.out, g.O.Sink.faults l.out)
