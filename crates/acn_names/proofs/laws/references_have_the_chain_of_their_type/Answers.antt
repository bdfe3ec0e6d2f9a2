use Rattle.acn_names.proofs.Based.{reference_chain}
use Rattle.acn_names.proofs.laws.references_have_the_chain_of_their_type.Goals as goal

pub returns : goal.returns
returns c = reference_chain
