use Rattle.std.proofs.Common.{ℕ, List, subst}
use Rattle.acn_print.specs.Printing.{Prints}
use Rattle.acn_explain.proofs.LineTexts.{line_is}
use Rattle.acn_explain.proofs.lines.put_piece.Goals as goal

pub returns : goal.returns
returns g c =
    subst (λ (text : List ℕ). Prints text (g.O.Sink.taken c.args.out.now, g.O.Sink.faults c.args.out.now) (g.O.Sink.taken c.put_parts.new.out, g.O.Sink.faults c.put_parts.new.out) c.put_parts.result)
    (line_is c.args.tree.now c.args.bits.now c.args.piece.now c.word.result.now c.bits_at.result.now c.word.ensures c.bits_at.ensures) c.put_parts.ensures
