use Rattle.std.proofs.Common.{pos}
use Rattle.std.specs.Prelude.{◌-ℤ◌}
use Rattle.acn_num.specs.Ranges.{bottom}
use Rattle.acn_num.proofs.Order.{same_set}
use Rattle.acn_num.proofs.range_set.same_numbers_same_set.Goals as goal

pub returns : goal.returns
returns c = λ s t p q e. same_set (bottom -ℤ pos 1) s t p q e
