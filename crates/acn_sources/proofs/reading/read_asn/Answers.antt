use Rattle.std.proofs.Common.{◌≡◌}
use Rattle.std.specs.Prelude.{Ok, Err}
use Rattle.acn_sources.specs.Kinds.{asn_grammar}
use Rattle.acn_sources.proofs.Read.{lexical_answer, token_answer}
use Rattle.acn_sources.proofs.reading.read_asn.Goals as goal

pub returns-in-Err-clause-each : goal.returns-in-Err-clause-each
returns-in-Err-clause-each c =
    rw c.lexical.ensures
    (lexical_answer asn_grammar c.args.bytes.now c.in-Err.fault c.in-Err.ensures.fault (λ ts h. c.in-Err.ensures.each ts h.0 h.1) c.in-Err.ensures.first).each

pub returns-in-Err-clause-fault : goal.returns-in-Err-clause-fault
returns-in-Err-clause-fault c =
    rw c.lexical.ensures
    (lexical_answer asn_grammar c.args.bytes.now c.in-Err.fault c.in-Err.ensures.fault (λ ts h. c.in-Err.ensures.each ts h.0 h.1) c.in-Err.ensures.first).fault

pub returns-in-Err-clause-first : goal.returns-in-Err-clause-first
returns-in-Err-clause-first c =
    rw c.lexical.ensures
    (lexical_answer asn_grammar c.args.bytes.now c.in-Err.fault c.in-Err.ensures.fault (λ ts h. c.in-Err.ensures.each ts h.0 h.1) c.in-Err.ensures.first).first

pub returns-in-Ok-parse_asn-clause-tree : goal.returns-in-Ok-parse_asn-clause-tree
returns-in-Ok-parse_asn-clause-tree c =
    let e = c.in-Ok-parse_asn.ensures in
    (token_answer asn_grammar c.args.bytes.now c.in-Ok.tokens.list (Ok c.in-Ok-parse_asn.tree) c.in-Ok.ensures.tokens c.in-Ok.ensures.few c.in-Ok.ensures.each c.in-Ok.ensures.first
    e.found e.only e.left_out e.too_deep e.place).tree

pub returns-in-Ok-parse_asn-clause-each : goal.returns-in-Ok-parse_asn-clause-each
returns-in-Ok-parse_asn-clause-each c =
    let e = c.in-Ok-parse_asn.ensures in
    (token_answer asn_grammar c.args.bytes.now c.in-Ok.tokens.list (Ok c.in-Ok-parse_asn.tree) c.in-Ok.ensures.tokens c.in-Ok.ensures.few c.in-Ok.ensures.each c.in-Ok.ensures.first
    e.found e.only e.left_out e.too_deep e.place).each

pub returns-in-Ok-parse_asn-clause-first : goal.returns-in-Ok-parse_asn-clause-first
returns-in-Ok-parse_asn-clause-first c =
    let e = c.in-Ok-parse_asn.ensures in
    (token_answer asn_grammar c.args.bytes.now c.in-Ok.tokens.list (Ok c.in-Ok-parse_asn.tree) c.in-Ok.ensures.tokens c.in-Ok.ensures.few c.in-Ok.ensures.each c.in-Ok.ensures.first
    e.found e.only e.left_out e.too_deep e.place).first

pub returns-clause-each : goal.returns-clause-each
returns-clause-each c =
    let e = c.in-Err-parse_asn.ensures in
    rw (c.located.ensures, c.items.ensures)
    (token_answer asn_grammar c.args.bytes.now c.in-Ok.tokens.list (Err c.in-Err-parse_asn.fault) c.in-Ok.ensures.tokens c.in-Ok.ensures.few c.in-Ok.ensures.each c.in-Ok.ensures.first
    e.found e.only e.left_out e.too_deep e.place).each

pub returns-clause-fault : goal.returns-clause-fault
returns-clause-fault c =
    let e = c.in-Err-parse_asn.ensures in
    rw (c.located.ensures, c.items.ensures)
    (token_answer asn_grammar c.args.bytes.now c.in-Ok.tokens.list (Err c.in-Err-parse_asn.fault) c.in-Ok.ensures.tokens c.in-Ok.ensures.few c.in-Ok.ensures.each c.in-Ok.ensures.first
    e.found e.only e.left_out e.too_deep e.place).fault

pub returns-clause-first : goal.returns-clause-first
returns-clause-first c =
    let e = c.in-Err-parse_asn.ensures in
    rw (c.located.ensures, c.items.ensures)
    (token_answer asn_grammar c.args.bytes.now c.in-Ok.tokens.list (Err c.in-Err-parse_asn.fault) c.in-Ok.ensures.tokens c.in-Ok.ensures.few c.in-Ok.ensures.each c.in-Ok.ensures.first
    e.found e.only e.left_out e.too_deep e.place).first
