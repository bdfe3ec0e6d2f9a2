use Rattle.acn_params.proofs.Merged.{leads_so}
use Rattle.acn_params.proofs.laws.paths_lead_where_the_merge_takes_them.Goals as goal

pub returns : goal.returns
returns c = leads_so
