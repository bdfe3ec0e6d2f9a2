use Rattle.acn_extreme_laws.proofs.BestLength.{best_reaches}
use Rattle.acn_extreme_laws.proofs.laws.best_reaches.Goals as goal

pub returns : goal.returns
returns c = best_reaches c.accepted_is_sound.ensures c.each_number_has_a_code.ensures
