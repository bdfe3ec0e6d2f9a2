use Rattle.acn_codings.specs.Items.{written, free}
use Rattle.acn_fold_laws.proofs.Unwritten.{unwritten}
use Rattle.acn_fold_laws.proofs.laws.free_numbers_are_unwritten.Goals as goal

pub returns : goal.returns
unfolding free
returns c = λ items x f. unwritten written items x f
