use Rattle.std.proofs.Common.{sym, ◌∙◌}
use Rattle.acn_json.proofs.Escapes.{digits-escape}
use Rattle.acn_printed.proofs.Characters.{plain-text}
use Rattle.acn_printed.proofs.texts.read_bits.Goals as goal

pub returns : goal.returns
returns c = plain-text _ _ _ c.in_ok-digits.digits.now (sym c.in_ok-bits.ensures ∙ sym (digits-escape c.in_ok-bits.bits)) c.in_ok-digits.ensures
