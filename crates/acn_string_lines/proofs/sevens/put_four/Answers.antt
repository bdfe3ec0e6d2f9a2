use Rattle.std.proofs.Common.{sym, ◌∙◌}
use Rattle.acn_string_lines.proofs.Outcomes.{when_ok}
use Rattle.acn_string_lines.proofs.SevenTexts.{four_put}
use Rattle.acn_string_lines.proofs.sevens.put_four.Goals as goal

pub returns-then-are_plain : goal.returns-then-are_plain
returns-then-are_plain c sure =
    let added = when_ok c.put.result (sym c.is_ok.ensures.value ∙ sure) c.put.ensures.added in
    four_put c.args.leaf.now c.args.letters.now c.args.word c.seven-first.result c.seven-second.result c.seven-third.result c.seven-fourth.result c.args.text.now.items c.put.new.out.items c.requires.letters c.requires.sevens
    (c.seven-first.ensures.value, c.seven-first.ensures.small, c.are_plain.ensures.first c.if-are_plain.true)
    (c.seven-second.ensures.value, c.seven-second.ensures.small, c.are_plain.ensures.second c.if-are_plain.true)
    (c.seven-third.ensures.value, c.seven-third.ensures.small, c.are_plain.ensures.third c.if-are_plain.true)
    (c.seven-fourth.ensures.value, c.seven-fourth.ensures.small, c.are_plain.ensures.fourth c.if-are_plain.true)
    added
