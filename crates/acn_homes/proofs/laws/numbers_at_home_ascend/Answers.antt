use Rattle.acn_homes.proofs.AtHome.{ascending}
use Rattle.acn_homes.proofs.laws.numbers_at_home_ascend.Goals as goal

pub returns : goal.returns
returns c = λ all path. ascending path 0 all
