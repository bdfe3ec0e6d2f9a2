use Rattle.acn_homes.proofs.Followed.{slots_few}
use Rattle.acn_homes.proofs.laws.slots_are_nodes.Goals as goal

pub returns : goal.returns
returns c = slots_few
