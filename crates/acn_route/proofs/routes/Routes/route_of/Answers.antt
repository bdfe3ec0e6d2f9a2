use Rattle.std.proofs.Common.{ap, List, ◌∙◌}
use Rattle.acn_route.specs.Listed.{Listed, tree_for}
use Rattle.acn_route.proofs.Lookups.{seen, ready_there}
use Rattle.acn_route.proofs.routes.Routes.route_of.Goals as goal

pub returns-clause-found : goal.returns-clause-found
returns-clause-found c = seen c.args.apid c.self.inside.routes.entries c.get.result c.get.ensures.value ∙ ap (λ (ls : List Listed). tree_for ls c.args.apid) c.self.view_is

pub returns-clause-ready : goal.returns-clause-ready
returns-clause-ready c = ready_there c.args.apid c.self.inside.routes.entries c.get.result c.self.invariant c.get.ensures.value
