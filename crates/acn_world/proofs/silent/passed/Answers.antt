use Rattle.std.proofs.Common.{refl}
use Rattle.acn_index.specs.Views.{index_view}
use Rattle.acn_index.specs.Linked.{link_view}
use Rattle.acn_world.proofs.PassedOver as passed_over
use Rattle.acn_world.proofs.silent.passed.Goals as goal

pub returns-in-None : goal.returns-in-None
returns-in-None c = passed_over.itself (index_view c.args.index.now) (link_view c.args.next) c.args.left _ refl refl
