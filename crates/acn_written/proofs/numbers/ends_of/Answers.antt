use Rattle.acn_written.proofs.Within.{ends_within}
use Rattle.acn_written.proofs.numbers.ends_of.Goals as goal

pub returns-clause-low : goal.returns-clause-low
returns-clause-low c = (ends_within c.args.coding _ c.requires c.numbers.ensures).0

pub returns-clause-low_end : goal.returns-clause-low_end
returns-clause-low_end c = (ends_within c.args.coding _ c.requires c.numbers.ensures).1

pub returns-clause-high : goal.returns-clause-high
returns-clause-high c = (ends_within c.args.coding _ c.requires c.numbers.ensures).2

pub returns-clause-high_end : goal.returns-clause-high_end
returns-clause-high_end c = (ends_within c.args.coding _ c.requires c.numbers.ensures).3
