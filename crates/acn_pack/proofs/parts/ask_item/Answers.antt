use Rattle.std.proofs.Common.{◌≡◌, ℕ, ◌∷◌, [], pos, Some, sym, ap, ◌∙◌, subst}
use Rattle.acn_grammar.specs.Asks.{Equal, index_of, same_name}
use Rattle.acn_grammar.specs.Slots.{items_of}
use Rattle.acn_grammar.specs.Faults.{ask_of}
use Rattle.acn_events.specs.Event.{wants}
use Rattle.acn_plan.specs.Back.{item_at}
use Rattle.acn_pack.specs.Parts.{item_events, name_in, IsItemed}
use Rattle.acn_pack.proofs.Cases.{some_number, no_number}
use Rattle.acn_pack.proofs.Ways.{nothing, one, packs_as}
use Rattle.acn_pack.proofs.parts.ask_item.Goals as goal

pub returns-in-Index : goal.returns-in-Index
returns-in-Index g c = λ root path itemed. nothing (item_events root path c.args.rule.now (name_in c.args.place.now)) c.args.w.now (ap (λ r. item_events root path r (name_in c.args.place.now)) c.in-Index.is)

pub returns-in-Tests : goal.returns-in-Tests
returns-in-Tests g c = λ root path itemed. nothing (item_events root path c.args.rule.now (name_in c.args.place.now)) c.args.w.now (ap (λ r. item_events root path r (name_in c.args.place.now)) c.in-Tests.is)

pub returns-in-Some : goal.returns-in-Some
returns-in-Some g c = λ root path itemed.
    let slot = c.in-Item.slot in
    let item = subst (λ r. IsItemed root r c.args.place.now) c.in-Item.is itemed in
    let same = some_number c.in-Some.item _ (c.in-Some.ensures ∙ item) in
    packs_as (wants path slot (ask_of c.equal-ask.result) ∷ []) (item_events root path c.args.rule.now (name_in c.args.place.now)) c.args.w.now c.want.new.self path c.want.new.why c.want.result
    (ap (λ a. wants path slot a ∷ []) (c.equal-ask.ensures ∙ ap (λ (n : ℕ). Equal (pos n)) (c.from.ensures ∙ same)) ∙ ap (λ r. item_events root path r (name_in c.args.place.now)) (sym c.in-Item.is))
    (one (λ p. wants p slot (ask_of c.equal-ask.result)) c.args.w.now c.want.new.self path c.want.new.why c.want.result c.want.ensures.ran c.want.ensures.halted)

pub unreachable-requires : goal.unreachable-requires
unreachable-requires g c =
    let r = c.requires in
    let place = c.args.place.now in
    let item : item_at place ≡ Some (index_of (same_name (name_in place)) (items_of r.0 c.in-Item.slot)) = subst (λ r'. IsItemed r.0 r' place) c.in-Item.is r.1 in
    no_number _ (c.in-None.ensures {u = tt} ∙ item)
