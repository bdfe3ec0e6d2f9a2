use Rattle.acn_index.specs.Views.{index_view}
use Rattle.acn_index.proofs.Mapped.{acn_first}
use Rattle.acn_world.proofs.entries.acn_place.Goals as goal

pub returns : goal.returns
returns c = acn_first (index_view c.args.index.now) c.args.index.now.maps c.args.index.now.mapped c.args.name.now c.get.result c.get.ensures.first
