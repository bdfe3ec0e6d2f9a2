use Rattle.std.proofs.lemmas.Result.{on_ok_weaker}
use Rattle.acn_string_lines.proofs.HexTexts.{word_put}
use Rattle.acn_string_lines.proofs.strings.put_word.Goals as goal

pub returns : goal.returns
returns c = on_ok_weaker c.put_digits.result (λ e. word_put c.take_word-word.result _ _ _ _ c.requires c.take_word-word.ensures.value c.take_word-word.ensures.moved e) c.put_digits.ensures
