use Rattle.acn_string_lines.proofs.BinaryTexts.{no_bits_put, more_bits_put, bits_left}
use Rattle.acn_string_lines.proofs.strings.put_each_bit.Goals as goal

pub loop-i-init : goal.loop-i-init
loop-i-init c = no_bits_put c.args.text.now.items c.args.cur.now

pub put_bit-requires : goal.put_bit-requires
put_bit-requires c = bits_left c.args.n c.loop-i.i c.args.text.now.items c.loop-i.text.items c.args.cur.now c.loop-i.cur c.loop-i-test.true c.requires c.loop-i.invariant

pub loop-i-preserved : goal.loop-i-preserved
loop-i-preserved c = more_bits_put c.loop-i.i 1 _ _ _ _ _ _ c.loop-i.invariant c.in_ok-put_bit.ensures
