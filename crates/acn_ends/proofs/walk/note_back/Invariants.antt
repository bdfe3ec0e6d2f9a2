use Rattle.acn_ends.specs.Ends.{AreRight}
use Rattle.acn_ends.proofs.walk.note_back.Given as goal

abbrev pub invariant-loop-from : goal.invariant-loop-from
invariant-loop-from g l =
    (goal.iterator-loop-from g).can_next l.from-iterator ×
    (goal.iterator-loop-from g).is_finite l.from-iterator ×
    AreRight (g.S.Steps.onward l.steps) l.ends
