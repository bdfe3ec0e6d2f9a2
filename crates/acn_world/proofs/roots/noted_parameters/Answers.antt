use Rattle.acn_index.specs.Views.{index_view}
use Rattle.acn_index.specs.Linked.{link_view}
use Rattle.acn_world.proofs.ParameterEnds.{noted}
use Rattle.acn_world.proofs.roots.noted_parameters.Goals as goal

pub returns : goal.returns
returns c = noted (index_view c.args.index.now) c.args.ends.now c.args.place (link_view c.args.link) c.spot_of.result c.in_ok-end.end c.gives_at_end.result c.requires.right c.requires.assigned c.spot_of.ensures (c.in_ok-end.ensures {u = tt}) c.gives_at_end.ensures
