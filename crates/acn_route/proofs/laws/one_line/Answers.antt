use Rattle.acn_route.proofs.OneLine.{told}
use Rattle.acn_route.proofs.laws.one_line.Goals as goal

pub returns : goal.returns
returns c = told c.one_front.ensures c.fronts_exclude_failures.ensures c.one_failure.ensures
