use Rattle.std.proofs.Common.{◌≡◌, drop}
use Rattle.std.specs.Prelude.{map}
use Rattle.acn_index.specs.Linked.{link_view}
use Rattle.acn_index.specs.Chains.{last_link}
use Rattle.acn_index.proofs.chain.last_link.Given as goal

abbrev pub invariant-loop-link : goal.invariant-loop-link
invariant-loop-link l = last_link (link_view l.last) (map link_view (drop l.link-index l.all)) ≡ last_link (link_view l.first) (map link_view l.all)
