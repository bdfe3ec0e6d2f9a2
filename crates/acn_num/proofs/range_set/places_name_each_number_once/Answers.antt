use Rattle.std.proofs.Common.{pos}
use Rattle.std.specs.Prelude.{◌-ℤ◌}
use Rattle.acn_num.specs.Ranges.{bottom}
use Rattle.acn_num.proofs.Nth.{at, nth_in, nth_rises}
use Rattle.acn_num.proofs.range_set.places_name_each_number_once.Goals as goal

pub returns-clause-each : goal.returns-clause-each
returns-clause-each c = λ s x h is. (let a = at (bottom -ℤ pos 1) s x h is in (a.place, a.under, a.is))

pub returns-clause-rises : goal.returns-clause-rises
returns-clause-rises c = λ s m n x y h lt e f. (nth_rises (bottom -ℤ pos 1) s m n x y h lt e f, (nth_in (bottom -ℤ pos 1) s m x h e).0, (nth_in (bottom -ℤ pos 1) s n y h f).0)
