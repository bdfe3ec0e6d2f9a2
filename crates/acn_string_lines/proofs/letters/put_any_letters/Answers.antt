use Rattle.std.proofs.Common.{◌*◌, ◌/◌, ◌%◌, arith}
use Rattle.acn_string_lines.proofs.LetterTexts.{more_letters, letters_left}
use Rattle.acn_string_lines.proofs.letters.put_any_letters.Goals as goal

pub put_some-requires-clause-there : goal.put_some-requires-clause-there
put_some-requires-clause-there c =
    let n = c.args.n in
    letters_left c.args.leaf.now (8 * (n / 8)) (n % 8) n c.args.text.now.items c.put_full.new.text.items c.args.cur.now c.put_full.new.cur (omega arith) c.requires.there (c.put_full.ensures c.if-not-put_full.false)

pub returns : goal.returns
returns c sure =
    let n = c.args.n in
    more_letters c.args.leaf.now (8 * (n / 8)) (n % 8) n _ _ _ _ _ _ (omega arith) (c.put_full.ensures c.if-not-put_full.false) (c.put_some.ensures sure)
