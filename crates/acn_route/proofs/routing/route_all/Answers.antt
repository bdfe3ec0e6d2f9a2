use Rattle.acn_route.proofs.Ending.{never_begun}
use Rattle.acn_route.proofs.routing.route_all.Goals as goal

pub returns-in-Err-clause-ends : goal.returns-in-Err-clause-ends
returns-in-Err-clause-ends g c = never_begun _ _ _ _

pub returns-in-Ok-clause-ends : goal.returns-in-Ok-clause-ends
returns-in-Ok-clause-ends g c = rw c.in-Ok.ensures at c.route_supply.ensures.ends
