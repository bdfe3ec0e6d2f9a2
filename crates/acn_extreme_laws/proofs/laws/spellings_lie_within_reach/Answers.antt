use Rattle.acn_extreme_laws.proofs.Reaching.{spellings_lie_within_reach}
use Rattle.acn_extreme_laws.proofs.laws.spellings_lie_within_reach.Goals as goal

pub returns : goal.returns
returns c = spellings_lie_within_reach c.accepted_is_sound.ensures c.known_behind.ensures
