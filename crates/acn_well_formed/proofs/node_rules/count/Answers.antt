use Rattle.acn_well_formed.proofs.AlternativeRows.{alternatives_counted}
use Rattle.acn_well_formed.proofs.node_rules.count.Goals as goal

pub returns : goal.returns
returns c = alternatives_counted c.args.alternatives.now
