use Rattle.std.proofs.Common.{◌++◌, sym, ap, ◌∙◌}
use Rattle.serde_json.specs.Written.{compact_text}
use Rattle.acn_grammar.specs.View.{form_of}
use Rattle.acn_json.specs.Lines.{form_json}
use Rattle.acn_transcode.proofs.Keeping.{when_err}
use Rattle.acn_transcode.proofs.Walks.{when_ok}
use Rattle.acn_transcode.proofs.front.put_any.Goals as goal

pub returns-clause-put : goal.returns-clause-put
returns-clause-put c sure =
    let p = c.put_body.ensures.put c.if-not-put_body.false in
    let word = compact_text (form_json (form_of c.args.body.now) p.0) in
    let added = when_ok c.put.result (sym c.is_ok.ensures.value ∙ sure) c.put.ensures.added in
    (p.0, p.1, added ∙ ap (λ t. c.args.text.now.items ++ t) (c.deref.ensures.value ∙ (p.2.added ∙ ap (λ t. t ++ word) c.requires.empty)))

pub returns-clause-kept : goal.returns-clause-kept
returns-clause-kept c e = when_err c.put.result (sym c.is_ok.ensures.value ∙ e) c.put.ensures.kept
