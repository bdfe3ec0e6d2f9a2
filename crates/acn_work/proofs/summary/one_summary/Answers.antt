use Rattle.acn_work.proofs.OneSummaries.{only_one}
use Rattle.acn_work.proofs.summary.one_summary.Goals as goal

pub returns : goal.returns
returns c = only_one c.one_writing.ensures c.refused_is_not_spelled.ensures
