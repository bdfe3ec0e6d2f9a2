use Rattle.std.proofs.Common.{sym, ap, ◌∙◌, ◌++◌, arith}
use Rattle.std.proofs.lemmas.List.{append-nil}
use Rattle.acn_set_elements.proofs.Texts.{after_end}
use Rattle.acn_defaults.proofs.text.characters.Goals as goal

pub returns : goal.returns
returns c = sym (append-nil c.loop-at.found.items) ∙ (ap (λ r. c.loop-at.found.items ++ r) (sym (after_end c.args.token.now c.loop-at.at (omega arith))) ∙ c.loop-at.invariant)
