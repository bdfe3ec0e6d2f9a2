use Rattle.std.proofs.Common.{arith}
use Rattle.std.proofs.lemmas.Result.{on_ok_weaker}
use Rattle.acn_string_lines.proofs.BinaryTexts.{bit_small, bit_put}
use Rattle.acn_string_lines.proofs.strings.put_bit.Goals as goal

pub overflow_cast-bit : goal.overflow_cast-bit
overflow_cast-bit c = let s = bit_small c.args.cur.now.rest c.requires in let e = c.take_word-bit.ensures.value in omega (arith, s, e)

pub returns : goal.returns
returns c = on_ok_weaker c.put_octet.result (λ e. bit_put c.take_word-bit.result _ _ _ _ c.requires c.take_word-bit.ensures.value c.take_word-bit.ensures.moved e) c.put_octet.ensures.added
