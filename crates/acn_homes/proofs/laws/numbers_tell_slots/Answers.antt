use Rattle.acn_homes.proofs.Followed.{number_tells}
use Rattle.acn_homes.proofs.laws.numbers_tell_slots.Goals as goal

pub returns : goal.returns
returns c = number_tells
