use Rattle.acn_front.proofs.Excluding.{worlds_are_one}
use Rattle.acn_front.proofs.laws.one_world.Goals as goal

pub returns : goal.returns
returns c = worlds_are_one c.one_sources.ensures
