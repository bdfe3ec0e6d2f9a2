use Rattle.std.proofs.Common.{◌≡◌, arith, subst, ℤ, pos, negsuc}
use Rattle.std.specs.Prelude.{◌⊎◌}
use Rattle.std.proofs.lemmas.Int.{to_z-of_z}
use Rattle.std.specs.Int.{w64}
use Rattle.acn_num.proofs.Octets.{least_either}
use Rattle.acn_num.proofs.widths.signed_octets_for.Goals as goal

pub returns-clause-least : goal.returns-clause-least
returns-clause-least c =
    let value = subst (λ (z : ℤ). (z ≡ pos c.magnitude.result) ⊎ (z ≡ negsuc c.magnitude.result)) (to_z-of_z w64 c.args.x c.ranges.x) c.magnitude.ensures.value in
    least_either c.args.x c.magnitude.result c.bits_for.result value c.bits_for.ensures.least

pub returns-clause-fits : goal.returns-clause-fits
returns-clause-fits c = (let k = c.bits_for.ensures.least.least 63 c.magnitude.ensures.small in omega arith)
