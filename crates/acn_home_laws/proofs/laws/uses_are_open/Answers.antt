use Rattle.acn_home_laws.proofs.Ruled.{uses_open}
use Rattle.acn_home_laws.proofs.laws.uses_are_open.Goals as goal

pub returns : goal.returns
returns c = λ root fields noted n. uses_open c.home_laws.ensures root fields noted n
