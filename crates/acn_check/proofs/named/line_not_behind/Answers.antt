use Rattle.std.proofs.Common.{map}
use Rattle.std.proofs.lemmas.Result.{err_from_is_err_and}
use Rattle.acn_grammar.specs.Walk.{condition, form_uses}
use Rattle.acn_check.specs.Facts.{facts_of}
use Rattle.acn_check.specs.First.{behind}
use Rattle.acn_check.specs.Program.{use_of, det_of}
use Rattle.acn_check.proofs.Telling.{told_by_tests, told_by_form}
use Rattle.acn_check.proofs.named.line_not_behind.Goals as goal

pub returns-in_err-tests_not_behind : goal.returns-in_err-tests_not_behind
returns-in_err-tests_not_behind c =
    let f = facts_of c.args.line.now in
    let p = err_from_is_err_and c.from_residual.result c.from_residual.ensures.1 in
    rw (p.1, p.2) (told_by_tests (behind (map det_of c.args.dets.now) c.args.at (facts_of c.args.line.now)) (map condition f.tag.tests) (form_uses f.form) c.in_err-tests_not_behind.field-0.0 c.in_err-tests_not_behind.ensures)

pub returns-in-Some : goal.returns-in-Some
returns-in-Some c =
    let f = facts_of c.args.line.now in
    told_by_form (behind (map det_of c.args.dets.now) c.args.at (facts_of c.args.line.now)) (map condition f.tag.tests) (form_uses f.form) (use_of c.in-Some.named) c.not_behind.result c.in_ok-tests_not_behind.ensures c.in-Some.ensures c.not_behind.ensures
