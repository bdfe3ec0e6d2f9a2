use Rattle.std.proofs.Common.{sym, ap, ◌∙◌, arith}
use Rattle.acn_constraint.specs.Sets.{letters_behind}
use Rattle.acn_set_elements.proofs.Texts.{after_end}
use Rattle.acn_constraint.proofs.letters.letters.Goals as goal

pub returns : goal.returns
returns c = ap (λ r. letters_behind c.loop-at.found r) (sym (after_end c.args.token.now c.loop-at.at (omega arith))) ∙ c.loop-at.invariant
