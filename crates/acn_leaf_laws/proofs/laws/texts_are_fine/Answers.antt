use Rattle.acn_leaf_laws.proofs.Reasons.{clear}
use Rattle.acn_leaf_laws.proofs.Texts.{text_good}
use Rattle.acn_leaf_laws.proofs.laws.texts_are_fine.Goals as goal

pub returns : goal.returns
returns c = λ w number all s none e. text_good w s all e (clear w number s none)
