use Rattle.acn_index.specs.Views.{index_view}
use Rattle.acn_index.specs.Linked.{link_view}
use Rattle.acn_world.proofs.PassedOver as passed_over
use Rattle.acn_world.proofs.silent.noted.Goals as goal

pub returns : goal.returns
returns c = passed_over.noted (index_view c.args.index.now) c.args.ends.now c.args.left (link_view c.args.next) c.in_ok-place.place c.spot_of.result c.in_ok-end.end c.at_end.result c.requires c.in_ok-place.was c.spot_of.ensures (c.in_ok-end.ensures {u = tt}) c.at_end.ensures
