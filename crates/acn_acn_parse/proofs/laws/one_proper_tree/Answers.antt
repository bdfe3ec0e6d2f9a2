use Rattle.acn_acn_parse.proofs.MapLaws as maps
use Rattle.acn_acn_parse.proofs.Whole.{one_proper}
use Rattle.acn_acn_parse.proofs.laws.one_proper_tree.Goals as goal

pub returns-clause-modules : goal.returns-clause-modules
returns-clause-modules c = one_proper

pub returns-clause-tables : goal.returns-clause-tables
returns-clause-tables c = maps.one_proper
