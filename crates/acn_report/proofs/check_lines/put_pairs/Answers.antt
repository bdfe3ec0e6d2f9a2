use Rattle.std.proofs.Common.{ap, arith, drop_of_length-le}
use Rattle.std.specs.List.{flat_map}
use Rattle.std.proofs.lemmas.List.{at_drop_more}
use Rattle.std.proofs.lemmas.Result.{err_from_is_err_and}
use Rattle.acn_print.proofs.Joining.{goes_on, breaks_off, ends}
use Rattle.acn_report.specs.CheckTexts.{spaced_pair}
use Rattle.acn_report.proofs.check_lines.put_pairs.Goals as goal

pub returns-in_err-put_pair : goal.returns-in_err-put_pair
returns-in_err-put_pair g c =
    let p = err_from_is_err_and c.from_residual.result c.from_residual.ensures.1 in
    let turn = at_drop_more (flat_map (spaced_pair c.args.tree.now)) c.args.pairs.now c.loop-pair.pair-index _ c.loop-pair-test.true in
    rw p.1 (breaks_off _ _ _ _ c.loop-pair.invariant _ _ _ c.in_err-put_pair.field-0.0 p.0 turn c.in_err-put_pair.ensures)

pub loop-pair-preserved : goal.loop-pair-preserved
loop-pair-preserved g c =
    let turn = at_drop_more (flat_map (spaced_pair c.args.tree.now)) c.args.pairs.now c.loop-pair.pair-index _ c.loop-pair-test.true in
    goes_on _ _ _ _ c.loop-pair.invariant _ _ _ turn c.in_ok-put_pair.ensures

pub returns : goal.returns
returns g c = ends _ _ _ _ c.loop-pair.invariant (ap (flat_map (spaced_pair c.args.tree.now)) (drop_of_length-le c.args.pairs.now (omega arith)))
