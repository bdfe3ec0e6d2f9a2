use Rattle.acn_home_laws.proofs.Inside.{inside_goes_on}
use Rattle.acn_home_laws.proofs.laws.nodes_inside_go_on.Goals as goal

pub returns : goal.returns
returns c = inside_goes_on
