use Rattle.acn_names.proofs.Ended.{each_found}
use Rattle.acn_names.proofs.laws.each_named_value_is_found.Goals as goal

pub returns : goal.returns
returns c = each_found
