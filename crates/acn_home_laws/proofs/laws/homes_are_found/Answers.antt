use Rattle.acn_home_laws.proofs.Homed.{homes_tell}
use Rattle.acn_home_laws.proofs.laws.homes_are_found.Goals as goal

pub returns : goal.returns
returns c = λ root fields noted n field s h. homes_tell c.home_laws.ensures root fields noted n field s h
