use Rattle.std.proofs.Common.{◌∙◌}
use Rattle.acn_leaf.proofs.Patterns.{same_by_bit}
use Rattle.acn_leads.proofs.begins.same.Goals as goal

pub returns : goal.returns
returns c = c.eq.ensures ∙ same_by_bit c.args.a.now c.args.b.now
