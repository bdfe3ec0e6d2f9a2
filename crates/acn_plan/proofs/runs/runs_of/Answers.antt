use Rattle.std.proofs.Common.{◌+◌, ℕ, List, ◌∷◌, [], length, length-append, drop, take, ap, sym, subst, ◌∙◌}
use Rattle.std.proofs.Math.Seq.{take-length}
use Rattle.std.proofs.lemmas.List.{length-drop}
use Rattle.acn_cut.specs.declared.stretch.Piece.{Piece}
use Rattle.acn_plan.specs.Runs.{AreRuns, IsRun}
use Rattle.acn_plan.specs.declared.step.Step.{Step}
use Rattle.acn_plan.proofs.Pieces.{runs_more}
use Rattle.acn_plan.proofs.runs.runs_of.Goals as goal

pub loop-at-preserved : goal.loop-at-preserved
loop-at-preserved c =
    let l = c.loop-at in
    let v = l.invariant in
    let steps = c.args.steps.now in
    let run = c.in_ok-run.run' in
    let pushed = c.in_ok-push.ensures.ok in
    let behind = ap (λ n. take n (drop l.at steps)) (sym (length-drop l.at steps)) ∙ take-length (drop l.at steps) in
    let one : IsRun l.at (drop l.at steps) run = subst (λ (ss : List Step). IsRun l.at ss run) behind c.in_ok-run.ensures in
    let here : IsRun (length l.runs) (drop (length l.runs) steps) run = subst (λ (n : ℕ). IsRun n (drop n steps) run) (sym v.count) one in
    record {
      count = ap length pushed ∙ (length-append l.runs (run ∷ []) ∙ ap (λ n. n + 1) v.count);
      are = subst (λ (x : List (List Piece)). AreRuns steps x) (sym pushed) (runs_more steps l.runs run v.are here);
    }
