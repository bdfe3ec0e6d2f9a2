use Rattle.acn_extreme_laws.proofs.BestWritten.{no_best_is_refused}
use Rattle.acn_extreme_laws.proofs.laws.no_best_is_refused.Goals as goal

pub returns : goal.returns
returns c = no_best_is_refused c.best_reaches.ensures c.spellings_lie_within_reach.ensures c.each_value_is_written_or_refused.ensures
