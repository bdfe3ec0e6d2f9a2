use Rattle.std.proofs.Common.{◌∷◌, [], sym, ap, ◌∙◌}
use Rattle.acn_grammar.specs.Faults.{ask_of}
use Rattle.acn_events.specs.Event.{wants}
use Rattle.acn_events.specs.Events.{size_wants}
use Rattle.acn_pack.proofs.Ways.{nothing, one, packs_as}
use Rattle.acn_pack.proofs.asking.ask_size.Goals as goal

pub returns-in-Prefix : goal.returns-in-Prefix
returns-in-Prefix g c = λ path. nothing (size_wants path c.args.n c.args.rule.now) c.args.w.now (ap (size_wants path c.args.n) c.in-Prefix.is)

pub returns-in-Ended : goal.returns-in-Ended
returns-in-Ended g c = λ path. nothing (size_wants path c.args.n c.args.rule.now) c.args.w.now (ap (size_wants path c.args.n) c.in-Ended.is)

pub returns-in-Slot : goal.returns-in-Slot
returns-in-Slot g c = λ path.
    let ask = ask_of c.equal-ask.result in
    packs_as (wants path c.in-Slot.slot ask ∷ []) (size_wants path c.args.n c.args.rule.now) c.args.w.now c.want.new.self path c.want.new.why c.want.result (ap (λ a. wants path c.in-Slot.slot a ∷ []) c.equal-ask.ensures ∙ sym (ap (size_wants path c.args.n) c.in-Slot.is))
    (one (λ p. wants p c.in-Slot.slot ask) c.args.w.now c.want.new.self path c.want.new.why c.want.result c.want.ensures.ran c.want.ensures.halted)
