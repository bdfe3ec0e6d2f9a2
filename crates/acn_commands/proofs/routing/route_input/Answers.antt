use Rattle.std.proofs.Common.{refl}
use Rattle.acn_commands.specs.Steps.{unready, begun}
use Rattle.acn_commands.proofs.Packets.{routes_failed_so}
use Rattle.acn_commands.proofs.routing.route_input.Goals as goal

pub returns-in_default : goal.returns-in_default
returns-in_default g c = rw c.no_memory.ensures.status (unready refl refl refl c.no_memory.ensures.says)

pub returns : goal.returns
returns g c =
    begun c.route_all-ended.result c.behind_routes.result (rw c.in-Ok.ensures at c.route_all-ended.ensures.ends) c.behind_routes.ensures
    (routes_failed_so c.route_all-ended.result _ _ _ _ c.route_all-ended.ensures.input_fault c.route_all-ended.ensures.output_fault c.route_all-ended.ensures.input_stays c.route_all-ended.ensures.output_stays)
