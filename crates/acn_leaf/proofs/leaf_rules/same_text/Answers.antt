use Rattle.std.proofs.Common.{◌∙◌}
use Rattle.acn_leaf.proofs.Spelled.{same_by_byte}
use Rattle.acn_leaf.proofs.leaf_rules.same_text.Goals as goal

pub returns : goal.returns
returns c = c.eq.ensures ∙ same_by_byte c.args.a.now c.args.b.now
