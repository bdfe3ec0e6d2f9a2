use Rattle.acn_home_laws.proofs.Ruled.{rules_hold}
use Rattle.acn_home_laws.proofs.laws.slot_rules_hold.Goals as goal

pub returns : goal.returns
returns c = λ root fields noted n. rules_hold c.home_laws.ensures root fields noted n
