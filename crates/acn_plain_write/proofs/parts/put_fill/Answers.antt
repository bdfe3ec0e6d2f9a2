use Rattle.std.proofs.Common.{◌-◌, ◌%◌, ◌∙◌, ap, ℕ}
use Rattle.acn_plain_write.proofs.Adding.{fills}
use Rattle.acn_plain_write.proofs.Walk.{on_ok}
use Rattle.acn_plain_write.proofs.parts.put_fill.Goals as goal

pub returns : goal.returns
returns c =
    on_ok c.put_zeros.result (λ e. fills c.args.base _ c.args.bits.now c.put_zeros.new.bits (ap (λ (n : ℕ). (8 - n % 8) % 8) (c.saturating_sub.ensures ∙ ap (λ (n : ℕ). n - c.args.base) c.len.ensures)) e) c.put_zeros.ensures
