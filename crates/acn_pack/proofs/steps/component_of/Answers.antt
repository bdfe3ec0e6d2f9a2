use Rattle.std.proofs.Common.{[], None, ap}
use Rattle.acn_plan.specs.Back.{field_by}
use Rattle.acn_pack.proofs.steps.component_of.Goals as goal

pub returns-in-Root-clause-none : goal.returns-in-Root-clause-none
returns-in-Root-clause-none c = λ g. ([], None, ap (λ p. field_by p g) c.in-Root.is)

pub returns-in-Alternative-clause-none : goal.returns-in-Alternative-clause-none
returns-in-Alternative-clause-none c = λ g. ([], None, ap (λ p. field_by p g) c.in-Alternative.is)

pub returns-in-Element-clause-none : goal.returns-in-Element-clause-none
returns-in-Element-clause-none c = λ g. ([], None, ap (λ p. field_by p g) c.in-Element.is)

pub returns-in-Content-clause-none : goal.returns-in-Content-clause-none
returns-in-Content-clause-none c = λ g. ([], None, ap (λ p. field_by p g) c.in-Content.is)
