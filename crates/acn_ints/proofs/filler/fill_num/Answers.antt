use Rattle.std.proofs.Common.{◌∙◌, sym}
use Rattle.acn_ints.proofs.filler.fill_num.Goals as goal

pub code_number-v-requires-clause-width : goal.code_number-v-requires-clause-width
code_number-v-requires-clause-width g c = c.check_permitted.ensures.one_width c.args.hole.width c.requires.width ∙ sym c.width.ensures.width
