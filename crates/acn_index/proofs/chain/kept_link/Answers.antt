use Rattle.acn_index.specs.Views.{index_view}
use Rattle.acn_index.specs.Linked.{link_view}
use Rattle.acn_index.proofs.LastLinks.{link_kept}
use Rattle.acn_index.proofs.chain.kept_link.Goals as goal

pub returns : goal.returns
returns c =
    link_kept (index_view c.args.index.now) c.args.index.now.bases (link_view c.args.first) (link_view c.in_ok-next.next) c.in_ok-place.place c.spot_of.result c.in_ok-end.end c.args.index.now.based
    (c.in_ok-next.ensures {u = tt}) c.in_ok-place.was c.spot_of.ensures (c.in_ok-end.ensures {u = tt}) c.link_at_end.result c.link_at_end.ensures
