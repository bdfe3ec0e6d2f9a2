use Rattle.acn_constraint.specs.Constraints.{text_of}
use Rattle.acn_constraint.proofs.Judged.{goes_on, stops, answers_at}
use Rattle.acn_constraint.proofs.answer.text_of.Goals as goal

pub returns-in-Err : goal.returns-in-Err
unfolding text_of
returns-in-Err c = stops _ _ _ _ c.in-Err.ensures

pub returns : goal.returns
unfolding text_of
returns c = answers_at _ _ (goes_on _ _ _ c.in-Ok.ensures) c.text_left.ensures
