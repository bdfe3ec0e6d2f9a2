use Rattle.std.proofs.Common.{sym, ◌∙◌}
use Rattle.acn_ends.proofs.Leading.{all_right}
use Rattle.acn_ends.proofs.walk.ends_of.Goals as goal

pub loop-spot-init : goal.loop-spot-init
loop-spot-init g c = all_right (g.S.Steps.onward c.args.steps.now) c.new-ends.result (λ p e f. let h = sym f ∙ c.new-ends.ensures p in absurd (cc h))
