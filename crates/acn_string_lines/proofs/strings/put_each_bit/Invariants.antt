use Rattle.acn_string_lines.proofs.BinaryTexts.{PutsBits}
use Rattle.acn_string_lines.proofs.strings.put_each_bit.Given as goal

abbrev pub invariant-loop-i : goal.invariant-loop-i
invariant-loop-i l = PutsBits l.i l.fn.text.items l.text.items l.fn.cur l.cur
