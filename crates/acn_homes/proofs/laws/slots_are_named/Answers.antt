use Rattle.acn_homes.proofs.Followed.{slots_named}
use Rattle.acn_homes.proofs.laws.slots_are_named.Goals as goal

pub returns : goal.returns
returns c = slots_named
