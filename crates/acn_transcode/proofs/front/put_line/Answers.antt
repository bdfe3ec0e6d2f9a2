use Rattle.std.proofs.Common.{◌∷◌, [], ◌++◌, sym, ap, ◌∙◌, append_assoc}
use Rattle.acn_grammar.specs.View.{grammar_of}
use Rattle.acn_json.specs.Lines.{line_of}
use Rattle.acn_transcode.proofs.Keeping.{kept_behind, when_err}
use Rattle.acn_transcode.proofs.Walks.{when_ok}
use Rattle.acn_transcode.proofs.front.put_line.Goals as goal

pub returns-clause-put : goal.returns-clause-put
returns-clause-put c sure =
    let p = c.put_packet.ensures.put c.if-not-put_packet.false in
    let line = line_of (grammar_of c.args.root.now) p.0 in
    let fed = when_ok c.put_octet.result (sym c.is_ok.ensures.value ∙ sure) c.put_octet.ensures.added in
    (p.0, p.1, fed ∙ (ap (λ t. t ++ 10 ∷ []) p.2 ∙ append_assoc c.args.text.now.items line (10 ∷ [])))

pub returns-clause-kept : goal.returns-clause-kept
returns-clause-kept c e =
    let p = c.put_packet.ensures.put c.if-not-put_packet.false in
    kept_behind _ _ _ (line_of (grammar_of c.args.root.now) p.0) p.2 (when_err c.put_octet.result (sym c.is_ok.ensures.value ∙ e) c.put_octet.ensures.kept)
