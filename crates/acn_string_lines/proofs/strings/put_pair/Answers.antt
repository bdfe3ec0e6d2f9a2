use Rattle.std.proofs.Common.{refl, ◌∙◌, arith}
use Rattle.std.proofs.lemmas.Result.{on_ok_weaker}
use Rattle.acn_string_lines.proofs.HexTexts.{octet_put}
use Rattle.acn_reads.proofs.StringReads.{octet_small}
use Rattle.acn_string_lines.proofs.strings.put_pair.Goals as goal

pub overflow_cast-octet : goal.overflow_cast-octet
overflow_cast-octet c = let s = octet_small c.args.cur.now.rest c.requires in let e = c.take_word-octet.ensures.value in omega (arith, s, e)

pub returns : goal.returns
returns c = on_ok_weaker c.put.result (λ e. octet_put c.take_word-octet.result _ _ _ _ c.requires c.take_word-octet.ensures.value c.take_word-octet.ensures.moved (e ∙ rw (c.high_digit.ensures, c.low_digit.ensures) refl)) c.put.ensures.added
