-- A site goes to the sites below it, with one step less.
use Rattle.std.proofs.Common.{◌≡◌, ◌+◌, ◌*◌, ◌++◌, drop, map}
use Rattle.std.specs.Prelude.{filter_map}
use Rattle.acn_grammar.specs.View as grammar
use Rattle.acn_made.specs.Made.{made, field_at, alternative_at}
use Rattle.acn_sites.specs.View.{sites_view}
use Rattle.acn_world.specs.Viewed.{world_view}
use Rattle.acn_made.proofs.nodes.+made.Given as goal

abbrev pub decreases-node : goal.decreases-node
decreases-node l = 5 * l.steps

abbrev pub decreases-formed : goal.decreases-formed
decreases-formed l = 5 * l.steps + 4

abbrev pub decreases-sequence : goal.decreases-sequence
decreases-sequence l = 5 * l.steps + 3

abbrev pub decreases-choice : goal.decreases-choice
decreases-choice l = 5 * l.steps + 3

abbrev pub decreases-list_of : goal.decreases-list_of
decreases-list_of l = 5 * l.steps + 3

abbrev pub decreases-octets : goal.decreases-octets
decreases-octets l = 5 * l.steps + 3

abbrev pub decreases-octets_with : goal.decreases-octets_with
decreases-octets_with l = 5 * l.steps + 2

abbrev pub decreases-first_node : goal.decreases-first_node
decreases-first_node l = 5 * l.steps + 2

abbrev pub decreases-fields : goal.decreases-fields
decreases-fields l = 5 * l.steps + 2

abbrev pub decreases-alternatives : goal.decreases-alternatives
decreases-alternatives l = 5 * l.steps + 2

abbrev pub invariant-fields-loop-site : goal.invariant-fields-loop-site
invariant-fields-loop-site l = map grammar.field_of l.all ++ filter_map (field_at (world_view l.world) l.homes (made l.steps (world_view l.world) l.homes)) (sites_view (drop l.site-index l.below))
    ≡ filter_map (field_at (world_view l.world) l.homes (made l.steps (world_view l.world) l.homes)) (sites_view l.below)

abbrev pub invariant-alternatives-loop-site : goal.invariant-alternatives-loop-site
invariant-alternatives-loop-site l = map grammar.alternative_of l.all ++ filter_map (alternative_at (world_view l.world) l.homes (made l.steps (world_view l.world) l.homes)) (sites_view (drop l.site-index l.below))
    ≡ filter_map (alternative_at (world_view l.world) l.homes (made l.steps (world_view l.world) l.homes)) (sites_view l.below)
