use Rattle.std.proofs.Common.{refl}
use Rattle.acn_leaf_laws.proofs.Forms.{form_good}
use Rattle.acn_leaf_laws.proofs.Reasons.{clear}
use Rattle.acn_leaf_laws.proofs.laws.forms_are_fine.Goals as goal
use Rattle.acn_reasons.specs.Classes.{class_of}

pub returns : goal.returns
returns c = λ w number all made s none items inside. form_good w s (clear w number s none) all made (class_of s) refl items inside
