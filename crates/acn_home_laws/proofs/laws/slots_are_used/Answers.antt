use Rattle.acn_home_laws.proofs.Ruled.{slots_used}
use Rattle.acn_home_laws.proofs.laws.slots_are_used.Goals as goal

pub returns : goal.returns
returns c = λ root fields noted n. slots_used c.home_laws.ensures root fields noted n
