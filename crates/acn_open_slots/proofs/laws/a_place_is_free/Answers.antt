use Rattle.acn_open_slots.proofs.Counts.{free}
use Rattle.acn_open_slots.proofs.laws.a_place_is_free.Goals as goal

pub returns : goal.returns
returns c = free
