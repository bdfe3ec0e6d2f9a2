use Rattle.std.proofs.Common.{map}
use Rattle.std.proofs.lemmas.Result.{err_from_is_err_and}
use Rattle.acn_grammar.specs.Walk.{condition, form_uses}
use Rattle.acn_check.specs.Facts.{facts_of}
use Rattle.acn_check.specs.First.{wrong_kind}
use Rattle.acn_check.specs.Program.{use_of, det_of}
use Rattle.acn_check.proofs.Telling.{told_by_tests, told_by_form}
use Rattle.acn_check.proofs.named.line_right_kind.Goals as goal

pub returns-in_err-tests_right_kind : goal.returns-in_err-tests_right_kind
returns-in_err-tests_right_kind c =
    let f = facts_of c.args.line.now in
    let p = err_from_is_err_and c.from_residual.result c.from_residual.ensures.1 in
    rw (p.1, p.2) (told_by_tests (wrong_kind (map det_of c.args.dets.now) (facts_of c.args.line.now)) (map condition f.tag.tests) (form_uses f.form) c.in_err-tests_right_kind.field-0.0 c.in_err-tests_right_kind.ensures)

pub returns-in-Some : goal.returns-in-Some
returns-in-Some c =
    let f = facts_of c.args.line.now in
    told_by_form (wrong_kind (map det_of c.args.dets.now) (facts_of c.args.line.now)) (map condition f.tag.tests) (form_uses f.form) (use_of c.in-Some.named) c.right_kind.result c.in_ok-tests_right_kind.ensures c.in-Some.ensures c.right_kind.ensures
