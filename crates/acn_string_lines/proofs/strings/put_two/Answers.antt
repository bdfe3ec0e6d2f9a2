use Rattle.std.proofs.Common.{◌++◌, refl, sym, ap, ◌∙◌, arith}
use Rattle.std.proofs.lemmas.Result.{on_ok_weaker}
use Rattle.std.specs.Int.{w16, to_be_bytes}
use Rattle.acn_string_lines.proofs.HexTexts.{spelled, spelled_is, word_small, two_octets, two_put}
use Rattle.acn_string_lines.proofs.strings.put_two.Goals as goal

pub overflow_cast-word : goal.overflow_cast-word
overflow_cast-word c = let s = word_small 16 c.args.cur.now.rest c.requires in let e = c.take_word-word.ensures.value in omega (arith, s, e)

pub returns : goal.returns
returns c =
    let os = to_be_bytes w16 c.take_word-word.result in
    on_ok_weaker c.put.result (λ e. two_put c.take_word-word.result _ _ _ _ c.requires c.take_word-word.ensures.value c.take_word-word.ensures.moved (e ∙ ap (λ r. c.args.text.now.items ++ r) (rw (c.high_digit.ensures, c.low_digit.ensures, c.high_digit-2.ensures, c.low_digit-2.ensures, c.to_be_bytes-o.ensures) (refl {a = spelled os}) ∙ sym (spelled_is os (two_octets c.take_word-word.result))))) c.put.ensures.added
