use Rattle.std.proofs.Common.{◌*◌}
use Rattle.acn_string_lines.specs.Letters.{PutsCharacters}
use Rattle.acn_string_lines.proofs.sevens.put_eights.Given as goal

abbrev pub invariant-loop-i : goal.invariant-loop-i
invariant-loop-i l = PutsCharacters l.leaf (8 * l.i) l.fn.text.items l.text.items l.fn.cur l.cur
