use Rattle.acn_index.proofs.ImportWays.{both_ways}
use Rattle.acn_index.proofs.laws.lookups_find_what_names_lead_to.Goals as goal

pub returns : goal.returns
returns c = λ w test name k p. both_ways w test name k p
