use Rattle.std.proofs.Common.{rules, ◌≡◌, [], ◌∷◌, None}
use Rattle.acn_string_lines.proofs.LetterTexts.{if_letters}
use Rattle.acn_string_lines.proofs.letters.letters_of.Goals as goal

pub returns : goal.returns
returns c =
    let leaf = c.args.leaf.now in
    let none : leaf.ended ≡ None = search rules in
    let one : leaf.alphabet ≡ c.in_ok-range.range.now ∷ [] = search rules in
    if_letters leaf c.between.result c.in_ok-range.range.now c.requires none one c.between.ensures.ends c.between.ensures.few c.between.ensures.ahead
