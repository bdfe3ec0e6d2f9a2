use Rattle.acn_json.proofs.RoundTripLaw.{lines_give}
use Rattle.acn_json.proofs.laws.lines_give_the_value.Goals as goal

pub returns : goal.returns
returns c = lines_give
