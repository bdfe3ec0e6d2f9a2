use Rattle.acn_value_laws.proofs.BothWays.{both_ways}
use Rattle.acn_value_laws.proofs.laws.values_are_found_where_references_end.Goals as goal

pub returns : goal.returns
returns c = λ w k name x. both_ways w c.lookups_find_what_names_lead_to.ensures k name x
