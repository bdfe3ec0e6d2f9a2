use Rattle.std.proofs.Common.{◌∙◌, ap, pos}
use Rattle.acn_num.specs.Ranges.{all_within}
use Rattle.acn_text.proofs.alphabet.number_of.Goals as goal
use Rattle.acn_grammar.proofs.TextRules.{text_rules}

pub place_in_ranges-requires-clause-small : goal.place_in_ranges-requires-clause-small
place_in_ranges-requires-clause-small c = ap (all_within (pos 0) (pos 127)) c.ranges-then-leaf.ensures.same ∙ (text_rules c.args.leaf.now c.requires.fine).small
