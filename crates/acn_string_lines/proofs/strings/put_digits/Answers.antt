use Rattle.std.proofs.Common.{◌++◌, refl, sym, ap, ◌∙◌}
use Rattle.std.proofs.lemmas.Result.{on_ok_weaker}
use Rattle.std.specs.Int.{w64, to_be_bytes}
use Rattle.acn_string_lines.proofs.HexTexts.{spelled, spelled_is, word_octets}
use Rattle.acn_string_lines.proofs.strings.put_digits.Goals as goal

pub returns : goal.returns
returns c =
    let os = to_be_bytes w64 c.args.word in
    on_ok_weaker c.put.result (λ e. e ∙ ap (λ r. c.args.text.now.items ++ r) (rw (c.high_digit.ensures, c.low_digit.ensures, c.high_digit-2.ensures, c.low_digit-2.ensures, c.high_digit-3.ensures, c.low_digit-3.ensures, c.high_digit-4.ensures, c.low_digit-4.ensures, c.high_digit-5.ensures, c.low_digit-5.ensures, c.high_digit-6.ensures, c.low_digit-6.ensures, c.high_digit-7.ensures, c.low_digit-7.ensures, c.high_digit-8.ensures, c.low_digit-8.ensures, c.to_be_bytes-o.ensures) (refl {a = spelled os}) ∙ sym (spelled_is os (word_octets c.args.word)))) c.put.ensures.added
