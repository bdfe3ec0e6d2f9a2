use Rattle.std.proofs.Common.{◌+◌, ◌*◌, arith}
use Rattle.acn_string_lines.proofs.HexTexts.{none_put, more_put, room_left}
use Rattle.acn_string_lines.proofs.strings.put_words.Goals as goal

pub loop-i-init : goal.loop-i-init
loop-i-init c = none_put c.args.text.now.items c.args.cur.now

pub put_word-requires : goal.put_word-requires
put_word-requires c =
    let i = c.loop-i-test.true in
    let room = room_left (8 * c.loop-i.i) 8 (8 * c.args.n) c.args.text.now.items c.loop-i.text.items c.args.cur.now c.loop-i.cur (omega (arith, i)) c.requires c.loop-i.invariant in
    omega (arith, room)

pub loop-i-preserved : goal.loop-i-preserved
loop-i-preserved c = more_put (8 * c.loop-i.i) 8 (8 * (c.loop-i.i + 1)) _ _ _ _ _ _ (omega arith) c.loop-i.invariant c.in_ok-put_word.ensures
