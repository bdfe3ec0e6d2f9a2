use Rattle.acn_extreme_laws.proofs.Parts.{repeated_texts_have_no_end}
use Rattle.acn_extreme_laws.proofs.laws.repeated_texts_have_no_end.Goals as goal

pub returns : goal.returns
returns c = repeated_texts_have_no_end
