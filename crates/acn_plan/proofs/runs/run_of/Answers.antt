use Rattle.std.proofs.Common.{arith, ◌≡◌, ◌+◌, ◌<◌, ℕ, List, ◌∷◌, [], length, length-append, get_or, ap, sym, subst, ◌∙◌}
use Rattle.acn_cut.specs.Stretches.{total}
use Rattle.acn_cut.specs.declared.stretch.Piece.{Piece}
use Rattle.acn_cut.proofs.Runs.{total_more}
use Rattle.acn_plan.specs.Runs.{ArePieces, IsPieceOf}
use Rattle.acn_plan.proofs.Pieces.{pieces_more}
use Rattle.acn_plan.proofs.runs.run_of.Goals as goal

pub loop-i-preserved : goal.loop-i-preserved
loop-i-preserved c =
    let l = c.loop-i in
    let v = l.invariant in
    let steps = c.args.steps.now in
    let s = c.index-steps-i.result in
    let piece = c.in-Some.piece in
    let pushed = c.in_ok-push.ensures.ok in
    let room = c.if-piece-width.false in
    let few = v.few in
    let there : length l.run < length steps = subst (λ (n : ℕ). n < length steps) (sym v.count) (let t = c.loop-i-test.true in omega (arith, t)) in
    let is : s ≡ get_or steps (length l.run) s = subst (λ (n : ℕ). s ≡ get_or steps n s) (sym v.count) c.index-steps-i.is in
    let one : IsPieceOf (c.args.number + length l.run) s piece = subst (λ (n : ℕ). IsPieceOf (c.args.number + n) s piece) (sym v.count) c.in-Some.ensures in
    record {
      count = ap length pushed ∙ (length-append l.run (piece ∷ []) ∙ ap (λ n. n + 1) v.count);
      width = ap (λ n. n + piece.cut.width) v.width ∙ (sym (total_more l.run piece) ∙ ap total (sym pushed));
      few = omega (arith, room, few);
      are = subst (λ (ps : List Piece). ArePieces c.args.number steps ps) (sym pushed) (pieces_more c.args.number steps l.run s piece there is v.are one);
    }
