use Rattle.std.proofs.Common.{sym, ap, ◌∙◌}
use Rattle.acn_homes.specs.Homes as spec
use Rattle.acn_homes.proofs.Shared.{above_pushed}
use Rattle.acn_homes.proofs.paths.above.Goals as goal

pub returns-in-Some : goal.returns-in-Some
returns-in-Some c = sym (ap spec.above (c.in-Some.ensures {u = tt}).cases.0 ∙ above_pushed c.in-Some.above.now _)
