use Rattle.std.proofs.Common.{drop, List, Some, ap, sym, subst, ◌∙◌}
use Rattle.std.specs.Prelude.{slice_get}
use Rattle.acn_cut.specs.declared.stretch.Piece.{Piece}
use Rattle.acn_plan.specs.Runs.{IsRun}
use Rattle.acn_plan.specs.declared.step.Step.{Step}
use Rattle.acn_plan.proofs.Pieces.{got}
use Rattle.acn_plan.proofs.steps.Steps.run.Goals as goal

pub returns-in-Some : goal.returns-in-Some
returns-in-Some c =
    let run = c.items-in-Some.result.now in
    let look = (c.in-Some.ensures {u = tt}).lookup in
    let runs = ap (λ (xs : List (List Piece)). slice_get xs c.args.number) (sym c.items.ensures) in
    let there = runs ∙ (got c.items.result.now c.args.number c.in-Some.run'.now look.0 look.1 ∙ ap Some (sym c.items-in-Some.ensures)) in
    subst (λ (ss : List Step). IsRun c.args.number (drop c.args.number ss) run) c.self.view_is (c.self.invariant c.args.number run there)
