use Rattle.acn_extreme_laws.proofs.BestWritten.{best_is_extreme, short}
use Rattle.acn_extreme_laws.proofs.laws.best_is_extreme.Goals as goal

pub returns : goal.returns
returns c = best_is_extreme c.accepted_is_sound.ensures c.each_number_has_a_code.ensures c.best_reaches.ensures c.spellings_lie_within_reach.ensures (short c.no_fault_without_a_first.ensures c.bounds_hold.ensures)
