use Rattle.std.proofs.Common.{arith, ap, length, ◌∙◌}
use Rattle.acn_route.proofs.Ending.{at_none, at_some}
use Rattle.acn_route.proofs.routing.at_end.Goals as goal

pub returns-then-left-eq0 : goal.returns-then-left-eq0
returns-then-left-eq0 c = at_none _ _ (omega (arith, c.if-left-eq0.true, ap length c.hand-left.ensures.same))

pub all-number-requires : goal.all-number-requires
all-number-requires c = omega (arith, c.requires)

pub overflow_add-number : goal.overflow_add-number
overflow_add-number c = omega (arith, c.all-number.ensures, c.if-left-eq0.false, ap length c.hand-left.ensures.same, c.requires)

pub returns : goal.returns
returns c = at_some _ _ _ _ (λ e. omega (arith, e, c.if-left-eq0.false, ap length c.hand-left.ensures.same)) (omega (arith, c.all-number.ensures)) (ap length c.hand-left.ensures.same)
