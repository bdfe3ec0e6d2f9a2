use Rattle.acn_front.proofs.Excluding.{types_without_grammars}
use Rattle.acn_front.proofs.laws.refused_types_have_no_grammars.Goals as goal

pub returns : goal.returns
returns c = types_without_grammars
