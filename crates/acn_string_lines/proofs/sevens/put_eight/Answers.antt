use Rattle.std.proofs.Common.{sym, ◌∙◌}
use Rattle.acn_string_lines.proofs.Outcomes.{when_ok}
use Rattle.acn_string_lines.proofs.SevenTexts.{eight_put}
use Rattle.acn_string_lines.proofs.sevens.put_eight.Goals as goal

pub returns-then-are_plain-2 : goal.returns-then-are_plain-2
returns-then-are_plain-2 c sure =
    let added = when_ok c.put.result (sym c.is_ok.ensures.value ∙ sure) c.put.ensures.added in
    eight_put c.args.leaf.now c.args.letters.now c.args.word c.seven-first.result c.seven-second.result c.seven-third.result c.seven-fourth.result c.seven-fifth.result c.seven-sixth.result c.seven-seventh.result c.seven-eighth.result c.args.text.now.items c.put.new.out.items c.requires.letters c.requires.sevens
    (c.seven-first.ensures.value, c.seven-first.ensures.small, c.are_plain.ensures.first c.if-are_plain.true)
    (c.seven-second.ensures.value, c.seven-second.ensures.small, c.are_plain.ensures.second c.if-are_plain.true)
    (c.seven-third.ensures.value, c.seven-third.ensures.small, c.are_plain.ensures.third c.if-are_plain.true)
    (c.seven-fourth.ensures.value, c.seven-fourth.ensures.small, c.are_plain.ensures.fourth c.if-are_plain.true)
    (c.seven-fifth.ensures.value, c.seven-fifth.ensures.small, c.are_plain-then-are_plain.ensures.first c.if-are_plain-2.true)
    (c.seven-sixth.ensures.value, c.seven-sixth.ensures.small, c.are_plain-then-are_plain.ensures.second c.if-are_plain-2.true)
    (c.seven-seventh.ensures.value, c.seven-seventh.ensures.small, c.are_plain-then-are_plain.ensures.third c.if-are_plain-2.true)
    (c.seven-eighth.ensures.value, c.seven-eighth.ensures.small, c.are_plain-then-are_plain.ensures.fourth c.if-are_plain-2.true)
    added
