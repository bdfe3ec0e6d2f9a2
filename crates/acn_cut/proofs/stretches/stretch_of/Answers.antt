use Rattle.std.proofs.Common.{arith, ap, sym, subst, ◌∙◌, ◌+◌, List, ◌∷◌, [], length, length-append, drop}
use Rattle.acn_grammar.specs.View.{fields_view}
use Rattle.acn_cut.specs.Stretches.{IsRun, total}
use Rattle.acn_cut.specs.declared.stretch.Piece.{Piece}
use Rattle.acn_cut.proofs.Runs.{run_more, total_more, field_next}
use Rattle.acn_cut.proofs.stretches.stretch_of.Goals as goal

pub loop-field-preserved : goal.loop-field-preserved
loop-field-preserved c =
    let l = c.loop-field in
    let v = l.invariant in
    let fields = c.args.fields.now in
    let next = fields_view (drop (l.field-index + 1) fields) in
    let pushed = c.in_ok-push.ensures.ok in
    let piece = c.in-Some.piece in
    let from = field_next fields l.field-index c.field-item.result c.loop-field-test.true c.field-item.is in
    let one = c.in-Some.ensures next in
    let room = c.if-piece-width.false in
    let few = v.few in
    record {
      count = ap length pushed ∙ (length-append l.pieces (piece ∷ []) ∙ ap (λ n. n + 1) v.count);
      width = ap (λ n. n + piece.cut.width) v.width ∙ (sym (total_more l.pieces piece) ∙ ap total (sym pushed));
      few = omega (arith, room, few);
      run = subst (λ (ps : List Piece). IsRun (fields_view fields) ps next) (sym pushed) (run_more (fields_view fields) (fields_view (drop l.field-index fields)) next l.pieces piece v.run (subst (λ x. IsRun x (piece ∷ []) next) (sym from) one));
    }
