use Rattle.acn_ends.proofs.Leading.{leads}
use Rattle.acn_ends.proofs.Ways.{unique}
use Rattle.acn_ends.proofs.laws.ends_are_unique.Goals as goal

pub returns : goal.returns
returns c = λ next n m p q r h k. unique next n m p q r (leads next n p q h.way) h.end (leads next m p r k.way) k.end
