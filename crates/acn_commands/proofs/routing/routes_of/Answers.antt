use Rattle.std.proofs.Common.{map, string_bytes}
use Rattle.acn_check.specs.declared.checked.Checked.{Checked}
use Rattle.acn_words.specs.View.{route_view}
use Rattle.acn_commands.proofs.Listing.{free_next, routes_more}
use Rattle.acn_commands.proofs.routing.routes_of.Goals as goal

pub add_route-requires-clause-free : goal.add_route-requires-clause-free
add_route-requires-clause-free c =
    free_next (λ (x : Checked). x.tree) (map string_bytes c.args.words.now.words.now) c.loop-checked.yielded c.loop-checked.routes c.loop-checked.i (route_view c.route_at.result) c.loop-checked.invariant.0 c.loop-checked.invariant.1 c.route_at.ensures
    c.args.words.now.are_routes

pub loop-checked-preserved : goal.loop-checked-preserved
loop-checked-preserved c =
    routes_more (λ (x : Checked). x.tree) (map string_bytes c.args.words.now.words.now) c.loop-checked.yielded c.loop-checked.routes c.loop-checked.i (route_view c.route_at.result) c.loop-checked.invariant.0 c.loop-checked.invariant.1 c.route_at.ensures
    c.add_route.new.routes c.in-Some.checked c.in_ok-add_route.ensures.added
