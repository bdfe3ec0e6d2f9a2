use Rattle.std.proofs.Common.{◌+◌, ◌*◌, arith}
use Rattle.acn_string_lines.proofs.LetterTexts.{more_letters, letters_left}
use Rattle.acn_string_lines.proofs.sevens.put_eights.Goals as goal

pub put_next_eight-requires-clause-there : goal.put_next_eight-requires-clause-there
put_next_eight-requires-clause-there c =
    let i = c.loop-i-test.true in
    letters_left c.args.leaf.now (8 * c.loop-i.i) 8 (8 * c.args.n) c.args.text.now.items c.loop-i.text.items c.args.cur.now c.loop-i.cur (omega (arith, i)) c.requires.there c.loop-i.invariant

pub loop-i-preserved : goal.loop-i-preserved
loop-i-preserved c = more_letters c.args.leaf.now (8 * c.loop-i.i) 8 (8 * (c.loop-i.i + 1)) _ _ _ _ _ _ (omega arith) c.loop-i.invariant (c.put_next_eight.ensures c.if-not-put_next_eight.false)
