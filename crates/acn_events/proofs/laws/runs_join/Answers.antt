use Rattle.acn_events.proofs.Joins.{runs_join}
use Rattle.acn_events.proofs.laws.runs_join.Goals as goal

pub returns : goal.returns
returns c = runs_join
