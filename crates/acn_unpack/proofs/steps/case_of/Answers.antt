use Rattle.std.proofs.Common.{List, ℕ, sym, ap, ◌∙◌, get_or}
use Rattle.std.specs.Prelude.{slice_get}
use Rattle.acn_plan.proofs.Mades.{made_nested}
use Rattle.acn_unpack.proofs.Chosen.{is_case, number_there}
use Rattle.acn_unpack.proofs.steps.case_of.Goals as goal

pub returns : goal.returns
returns c = λ steps first end made within row.
    is_case steps (made_nested steps made) end within c.args.i first (get_or c.args.numbers.now c.args.i 0) (ap (λ (xs : List ℕ). slice_get xs c.args.i) (sym row) ∙ number_there c.args.numbers.now c.args.i 0 c.requires.there)
