use Rattle.acn_names.proofs.Based.{each_base}
use Rattle.acn_names.proofs.laws.each_type_has_a_base.Goals as goal

pub returns : goal.returns
returns c = each_base
