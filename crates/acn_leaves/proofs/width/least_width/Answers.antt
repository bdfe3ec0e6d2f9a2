use Rattle.std.proofs.Common.{◌≡◌, subst, sym}
use Rattle.acn_leaves.specs.Widths.{least_width}
use Rattle.acn_leaves.proofs.Least.{least_found}
use Rattle.acn_leaves.proofs.width.least_width.Goals as goal

pub returns-in-Ok-clause-is : goal.returns-in-Ok-clause-is
returns-in-Ok-clause-is c = subst (λ m. c.bits_for.result ≡ least_width m) (c.in-Ok.ensures {u = tt}).1 (least_found c.in-Ok.n c.bits_for.result c.bits_for.ensures.least c.bits_for.ensures.fits)
