use Rattle.std.proofs.Common.{◌*◌}
use Rattle.acn_string_lines.proofs.HexTexts.{PutsOctets}
use Rattle.acn_string_lines.proofs.strings.put_words.Given as goal

abbrev pub invariant-loop-i : goal.invariant-loop-i
invariant-loop-i l = PutsOctets (8 * l.i) l.fn.text.items l.text.items l.fn.cur l.cur
