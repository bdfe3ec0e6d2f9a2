use Rattle.acn_homes.proofs.Shared.{other_ends}
use Rattle.acn_homes.proofs.paths.shared.Goals as goal

pub returns-in-None : goal.returns-in-None
returns-in-None c = other_ends c.args.path.now c.args.other.now c.loop-at.at (c.in-None.ensures {u = tt}).lookup.3 c.loop-at.invariant
