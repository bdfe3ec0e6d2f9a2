use Rattle.std.proofs.Common.{◌∙◌}
use Rattle.acn_set_elements.proofs.FoundNumbers.{looked_up_number}
use Rattle.acn_set_elements.proofs.numbers.looked_up.Goals as goal

pub returns : goal.returns
returns c = c.number_where.ensures ∙ looked_up_number _ _ _ _ c.requires c.get-at.ensures.first
