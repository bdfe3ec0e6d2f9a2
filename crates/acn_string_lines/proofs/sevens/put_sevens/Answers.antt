use Rattle.std.proofs.Common.{◌*◌, ◌/◌, ◌%◌, arith}
use Rattle.acn_string_lines.proofs.LetterTexts.{more_letters, letters_left}
use Rattle.acn_string_lines.proofs.sevens.put_sevens.Goals as goal

pub put_last-requires-clause-there : goal.put_last-requires-clause-there
put_last-requires-clause-there c =
    let n = c.args.n in
    letters_left c.args.leaf.now (8 * (n / 8)) (n % 8) n c.args.text.now.items c.put_eights.new.text.items c.args.cur.now c.put_eights.new.cur (omega arith) c.requires.there (c.put_eights.ensures c.if-not-put_eights.false)

pub returns : goal.returns
returns c sure =
    let n = c.args.n in
    more_letters c.args.leaf.now (8 * (n / 8)) (n % 8) n _ _ _ _ _ _ (omega arith) (c.put_eights.ensures c.if-not-put_eights.false) (c.put_last.ensures sure)
