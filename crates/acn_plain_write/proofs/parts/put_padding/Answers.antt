use Rattle.std.proofs.Common.{◌-◌, ◌∙◌, ap, ℕ}
use Rattle.acn_grammar.specs.Length.{padding}
use Rattle.acn_plain_write.proofs.Adding.{pads}
use Rattle.acn_plain_write.proofs.Walk.{on_ok}
use Rattle.acn_plain_write.proofs.parts.put_padding.Goals as goal

pub returns : goal.returns
returns c =
    on_ok c.put_zeros.result (λ e. pads c.args.align c.args.base _ c.args.bits.now c.put_zeros.new.bits c.requires.some (c.padding_at.ensures ∙ ap (padding c.args.align) (c.saturating_sub-at.ensures ∙ ap (λ (n : ℕ). n - c.args.base) c.len.ensures)) e) c.put_zeros.ensures
