use Rattle.acn_fold_laws.proofs.Texts.{places_order}
use Rattle.acn_fold_laws.proofs.laws.places_stand_as_words.Goals as goal

pub returns : goal.returns
returns c = λ p q. places_order p q
