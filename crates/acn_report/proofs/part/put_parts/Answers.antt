use Rattle.std.proofs.Common.{◌++◌, ◌+◌, sym, ap, ◌∙◌, arith, drop, drop_of_length-le}
use Rattle.std.specs.List.{flat_map}
use Rattle.std.proofs.lemmas.List.{at_drop_more}
use Rattle.std.proofs.lemmas.Result.{err_from_is_err_and}
use Rattle.acn_print.proofs.Joining.{goes_on, breaks_off, ends}
use Rattle.acn_report.specs.Parts.{part_text}
use Rattle.acn_report.proofs.part.put_parts.Goals as goal

pub returns-in_err-put : goal.returns-in_err-put
returns-in_err-put g c =
    let rest = flat_map part_text (drop (c.loop-part.part-index + 1) c.args.parts.now) in
    let p = err_from_is_err_and c.from_residual.result c.from_residual.ensures.1 in
    let turn = at_drop_more (flat_map part_text) c.args.parts.now c.loop-part.part-index c.part-item.result c.loop-part-test.true ∙ ap (λ x. part_text x ++ rest) (sym c.part-item.is) in
    rw p.1 (breaks_off _ _ _ _ c.loop-part.invariant _ _ _ c.in_err-put.field-0.0 p.0 turn c.in_err-put.ensures)

pub loop-part-preserved : goal.loop-part-preserved
loop-part-preserved g c =
    let rest = flat_map part_text (drop (c.loop-part.part-index + 1) c.args.parts.now) in
    let turn = at_drop_more (flat_map part_text) c.args.parts.now c.loop-part.part-index c.part-item.result c.loop-part-test.true ∙ ap (λ x. part_text x ++ rest) (sym c.part-item.is) in
    goes_on _ _ _ _ c.loop-part.invariant _ _ _ turn c.in_ok-put.ensures

pub returns : goal.returns
returns g c = ends _ _ _ _ c.loop-part.invariant (ap (flat_map part_text) (drop_of_length-le c.args.parts.now (omega arith)))
