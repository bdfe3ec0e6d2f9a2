use Rattle.acn_extreme_laws.proofs.Codes.{one_best}
use Rattle.acn_extreme_laws.proofs.laws.one_number_is_best.Goals as goal

pub returns : goal.returns
returns c = λ leaf side x fine is. one_best leaf fine side x is
