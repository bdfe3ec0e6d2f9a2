use Rattle.acn_home_laws.proofs.Ruled.{counted}
use Rattle.acn_home_laws.proofs.laws.slots_are_counted.Goals as goal

pub returns : goal.returns
returns c = λ root fields noted n. counted c.home_laws.ensures root fields noted n
