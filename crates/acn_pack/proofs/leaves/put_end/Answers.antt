use Rattle.std.proofs.Common.{◌∷◌, [], sym, ap, ◌∙◌}
use Rattle.acn_events.specs.Event.{copies}
use Rattle.acn_events.specs.Events.{end_events}
use Rattle.acn_pack.proofs.Ways.{nothing, one, packs_as}
use Rattle.acn_pack.proofs.leaves.put_end.Goals as goal

pub returns-in-Prefix : goal.returns-in-Prefix
returns-in-Prefix g c = λ path. nothing (end_events c.args.rule.now) c.args.w.now (ap end_events c.in-Prefix.is)

pub returns-in-Slot : goal.returns-in-Slot
returns-in-Slot g c = λ path. nothing (end_events c.args.rule.now) c.args.w.now (ap end_events c.in-Slot.is)

pub returns-in-Ended : goal.returns-in-Ended
returns-in-Ended g c = λ path.
    packs_as (copies c.bits-bits.result.now ∷ []) (end_events c.args.rule.now) c.args.w.now c.copy_bits.new.self path c.copy_bits.new.why c.copy_bits.result (ap (λ p. copies p ∷ []) c.bits-bits.ensures.same ∙ sym (ap end_events c.in-Ended.is))
    (one (λ p. copies c.bits-bits.result.now) c.args.w.now c.copy_bits.new.self path c.copy_bits.new.why c.copy_bits.result c.copy_bits.ensures.ran c.copy_bits.ensures.halted)
