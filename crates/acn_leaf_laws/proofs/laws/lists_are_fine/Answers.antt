use Rattle.std.proofs.Common.{ap}
use Rattle.acn_reasons.specs.Classes.{is_sized}
use Rattle.acn_leaf_laws.proofs.Reasons.{clear}
use Rattle.acn_leaf_laws.proofs.Sizes.{list_good}
use Rattle.acn_leaf_laws.proofs.laws.lists_are_fine.Goals as goal

pub returns : goal.returns
returns c = λ w number all s none e. list_good w all s (ap is_sized e) (clear w number s none).size
