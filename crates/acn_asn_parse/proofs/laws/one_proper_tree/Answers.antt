use Rattle.acn_asn_parse.proofs.Whole.{one_proper}
use Rattle.acn_asn_parse.proofs.laws.one_proper_tree.Goals as goal

pub returns : goal.returns
returns c = one_proper
