use Rattle.std.proofs.Common.{map}
use Rattle.std.proofs.lemmas.Result.{err_from_is_err_and}
use Rattle.acn_check.specs.First.{pairs}
use Rattle.acn_check.specs.Program.{det_of, cases_of}
use Rattle.acn_check.proofs.Cases.{pairs_in, pairs_on}
use Rattle.acn_check.proofs.overlaps.all_apart.Goals as goal

pub returns-in_err-apart_from : goal.returns-in_err-apart_from
returns-in_err-apart_from c =
    let ds = map det_of c.args.dets.now in
    let as' = c.args.alternatives.now in
    let p = err_from_is_err_and c.from_residual-in_err-apart_from.result c.from_residual-in_err-apart_from.ensures.1 in
    rw (p.1, p.2) (pairs_in ds c.args.path.now as' (pairs ds c.args.path.now 0 (cases_of as')) c.loop-at.at c.index-alternatives-at.result c.items.result.now c.behind.result.now c.in_err-apart_from.field-0.0 c.loop-at-test.true c.index-alternatives-at.is c.items.ensures c.behind.ensures c.loop-at.invariant c.in_err-apart_from.ensures)

pub loop-at-preserved : goal.loop-at-preserved
loop-at-preserved c =
    let ds = map det_of c.args.dets.now in
    let as' = c.args.alternatives.now in
    pairs_on ds c.args.path.now as' (pairs ds c.args.path.now 0 (cases_of as')) c.loop-at.at c.index-alternatives-at.result c.items.result.now c.behind.result.now c.loop-at-test.true c.index-alternatives-at.is c.items.ensures c.behind.ensures c.loop-at.invariant c.in_ok-apart_from.ensures
