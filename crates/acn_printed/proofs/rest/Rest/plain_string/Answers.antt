use Rattle.std.proofs.Common.{sym}
use Rattle.acn_json.proofs.Escapes.{plain-escape}
use Rattle.acn_printed.proofs.Characters.{plain-text, both-all}
use Rattle.acn_printed.proofs.rest.Rest.plain_string.Goals as goal

pub returns-clause-text : goal.returns-clause-text
returns-clause-text c =
    let inside = c.in_ok-inside.inside.now in
    plain-text _ _ _ inside (sym (plain-escape inside (both-all inside c.in_ok-inside.ensures.plain).1)) c.in_ok-inside.ensures.text

pub returns-clause-said : goal.returns-clause-said
returns-clause-said c = (both-all c.in_ok-inside.inside.now c.in_ok-inside.ensures.plain).0
