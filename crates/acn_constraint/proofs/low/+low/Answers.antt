use Rattle.std.proofs.Common.{sym, ◌∙◌}
use Rattle.acn_constraint.proofs.Steps.{meets_step, parts_step, found, later}
use Rattle.acn_constraint.proofs.low.+low.Goals as goal

pub meets_low-returns-then-is_some : goal.meets_low-returns-then-is_some
meets_low-returns-then-is_some t c =
    found _ _ _ _ c.meet_low-found.ensures (sym c.is_some.ensures ∙ c.if-is_some.true)
    (sym (meets_step _ _ _ _ _ _ c.loop-meet-test.true c.meet-item.is) ∙ c.loop-meet.invariant)

pub meets_low-loop-meet-preserved : goal.meets_low-loop-meet-preserved
meets_low-loop-meet-preserved t c =
    later _ _ _ _ c.meet_low-found.ensures (sym c.is_some.ensures ∙ c.if-is_some.false)
    (sym (meets_step _ _ _ _ _ _ c.loop-meet-test.true c.meet-item.is) ∙ c.loop-meet.invariant)

pub parts_low-returns-then-is_some : goal.parts_low-returns-then-is_some
parts_low-returns-then-is_some t c =
    found _ _ _ _ c.part_low-found.ensures (sym c.is_some.ensures ∙ c.if-is_some.true)
    (sym (parts_step _ _ _ _ _ _ c.loop-part-test.true c.part-item.is) ∙ c.loop-part.invariant)

pub parts_low-loop-part-preserved : goal.parts_low-loop-part-preserved
parts_low-loop-part-preserved t c =
    later _ _ _ _ c.part_low-found.ensures (sym c.is_some.ensures ∙ c.if-is_some.false)
    (sym (parts_step _ _ _ _ _ _ c.loop-part-test.true c.part-item.is) ∙ c.loop-part.invariant)
