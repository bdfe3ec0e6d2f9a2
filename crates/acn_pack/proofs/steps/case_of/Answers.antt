use Rattle.std.proofs.Common.{List, ℕ, sym, ap, ◌∙◌}
use Rattle.std.specs.Prelude.{slice_get}
use Rattle.acn_plan.proofs.Mades.{made_nested}
use Rattle.acn_pack.proofs.Chosen.{is_case, no_case}
use Rattle.acn_pack.proofs.steps.case_of.Goals as goal

pub returns-in-Some-clause-there : goal.returns-in-Some-clause-there
returns-in-Some-clause-there c = λ steps first end made within row. is_case steps (made_nested steps made) end within c.args.i first c.in-Some.number (ap (λ (xs : List ℕ). slice_get xs c.args.i) (sym row) ∙ sym c.in-Some.ensures)

pub returns-in-None-clause-none : goal.returns-in-None-clause-none
returns-in-None-clause-none c = λ steps first end made within row. no_case steps (made_nested steps made) end within c.args.i first (ap (λ (xs : List ℕ). slice_get xs c.args.i) (sym row) ∙ sym c.in-None.ensures)
