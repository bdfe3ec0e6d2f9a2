use Rattle.acn_world.proofs.AssignedChains.{assigned_chain}
use Rattle.acn_world.proofs.laws.assigned_chains_have_their_own_entry.Goals as goal

pub returns : goal.returns
returns c = assigned_chain
