use Rattle.acn_extreme_laws.proofs.Parts.{tests_can_be_met}
use Rattle.acn_extreme_laws.proofs.laws.tests_can_be_met.Goals as goal

pub returns : goal.returns
returns c = tests_can_be_met
