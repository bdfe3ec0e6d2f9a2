use Rattle.std.proofs.Common.{arith}
use Rattle.acn_string_lines.proofs.LetterTexts.{word_letters}
use Rattle.acn_string_lines.proofs.sevens.put_next_four.Goals as goal

pub returns : goal.returns
returns c sure =
    let seven = c.requires.sevens.width in
    word_letters c.args.leaf.now 4 28 c.take_word-word.result c.args.text.now.items c.put_four.new.text.items c.args.cur.now c.take_word-word.new.cur (omega (arith, seven)) c.requires.there c.take_word-word.ensures.value c.take_word-word.ensures.moved (c.put_four.ensures sure)
