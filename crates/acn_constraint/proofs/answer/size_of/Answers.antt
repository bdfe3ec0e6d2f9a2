use Rattle.acn_constraint.specs.Constraints.{size_of}
use Rattle.acn_constraint.proofs.Judged.{goes_on, stops, answers_at}
use Rattle.acn_constraint.proofs.answer.size_of.Goals as goal

pub returns-in-Err : goal.returns-in-Err
unfolding size_of
returns-in-Err c = stops _ _ _ _ c.in-Err.ensures

pub returns : goal.returns
unfolding size_of
returns c = answers_at _ _ (goes_on _ _ _ c.in-Ok.ensures) c.size_left.ensures
