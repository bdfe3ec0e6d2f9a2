use Rattle.acn_world.proofs.LawProofs.{ranked}
use Rattle.acn_world.proofs.laws.no_cycle_among_ranks.Goals as goal

pub returns : goal.returns
returns c = ranked
