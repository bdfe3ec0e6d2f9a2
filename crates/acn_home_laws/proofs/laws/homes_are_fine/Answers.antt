use Rattle.acn_home_laws.proofs.Ruled.{homes_fine}
use Rattle.acn_home_laws.proofs.laws.homes_are_fine.Goals as goal

pub returns : goal.returns
returns c = λ root fields noted n. homes_fine c.home_laws.ensures root fields noted n
