use Rattle.std.specs.Prelude.{pos, ◌-ℤ◌}
use Rattle.acn_num.specs.Ranges.{bottom}
use Rattle.acn_fold_laws.proofs.Sets.{least_in}
use Rattle.acn_fold_laws.proofs.laws.least_of_a_set_is_the_least.Goals as goal

pub returns : goal.returns
returns c = λ s h. least_in (bottom -ℤ pos 1) s h
