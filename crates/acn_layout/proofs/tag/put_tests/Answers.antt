use Rattle.std.proofs.Common.{ap, arith, drop_of_length-le}
use Rattle.std.specs.List.{flat_map}
use Rattle.std.proofs.lemmas.List.{at_drop_more}
use Rattle.std.proofs.lemmas.Result.{err_from_is_err_and}
use Rattle.acn_print.proofs.Joining.{goes_on, breaks_off, ends}
use Rattle.acn_layout.specs.Layout.{test_text}
use Rattle.acn_layout.proofs.tag.put_tests.Goals as goal

pub returns-in_err-put_test : goal.returns-in_err-put_test
returns-in_err-put_test g c =
    let p = err_from_is_err_and c.from_residual.result c.from_residual.ensures.1 in
    let turn = at_drop_more (flat_map (test_text c.args.tree.now)) c.args.tests.now c.loop-test.test-index _ c.loop-test-test.true in
    rw p.1 (breaks_off _ _ _ _ c.loop-test.invariant _ _ _ c.in_err-put_test.field-0.0 p.0 turn c.in_err-put_test.ensures)

pub loop-test-preserved : goal.loop-test-preserved
loop-test-preserved g c =
    let turn = at_drop_more (flat_map (test_text c.args.tree.now)) c.args.tests.now c.loop-test.test-index _ c.loop-test-test.true in
    goes_on _ _ _ _ c.loop-test.invariant _ _ _ turn c.in_ok-put_test.ensures

pub returns : goal.returns
returns g c = ends _ _ _ _ c.loop-test.invariant (ap (flat_map (test_text c.args.tree.now)) (drop_of_length-le c.args.tests.now (omega arith)))
