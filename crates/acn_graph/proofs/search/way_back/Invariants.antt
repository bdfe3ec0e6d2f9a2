use Rattle.std.proofs.Common.{◌<◌, length, get_or, reverse}
use Rattle.acn_graph.specs.Graph.{Graph, Among, Leads, onward}
use Rattle.acn_graph.specs.Search.{IsTrail}
use Rattle.acn_graph.proofs.search.way_back.Given as goal

abbrev pub invariant-loop-place : goal.invariant-loop-place
invariant-loop-place l = record {
  in_range : l.place < length l.order;
  led : (g : Graph) → IsTrail g l.order l.parents → Among (get_or l.order 0 0) (onward g (get_or l.order l.at 0)) → Leads g (get_or l.order l.place 0) (get_or l.order 0 0) (reverse l.way.items);
}

abbrev pub decreases-loop-place : goal.decreases-loop-place
decreases-loop-place l = l.place
