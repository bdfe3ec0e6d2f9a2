use Rattle.acn_string_lines.proofs.LetterTexts.{Parted}
use Rattle.acn_string_lines.proofs.letters.put_parts.Given as goal

abbrev pub invariant-loop-i : goal.invariant-loop-i
invariant-loop-i l = Parted l.leaf l.word l.n l.i l.fn.text.items l.text.items
