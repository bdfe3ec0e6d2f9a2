use Rattle.std.proofs.Common.{ap, ◌∙◌, length}
use Rattle.acn_plan.proofs.Mades.{made_nested}
use Rattle.acn_unpack.proofs.Chosen.{cases_counted}
use Rattle.acn_unpack.proofs.steps.count_cases.Goals as goal

pub returns : goal.returns
returns c = λ steps first end made within row. ap length row ∙ cases_counted steps (made_nested steps made) end within first
