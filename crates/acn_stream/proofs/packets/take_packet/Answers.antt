use Rattle.std.proofs.Common.{◌≡◌, ◌∙◌, length, refl, sym, ap, subst, arith}
use Rattle.acn_num.proofs.BitLists.{length-bits}
use Rattle.acn_grammar.specs.View.{grammar_of}
use Rattle.acn_packet_laws.specs.Laws.{IsAccepted}
use Rattle.acn_stream.specs.Steps.{Pauses, NotFull}
use Rattle.acn_stream.proofs.Taking.{held, takes_skipped, packet_there, some_bytes, paused}
use Rattle.acn_tree.specs.declared.tree.Tree.{Tree}
use Rattle.acn_stream.proofs.packets.take_packet.Goals as goal

pub octets_of-size-requires : goal.octets_of-size-requires
octets_of-size-requires g c = omega (arith, (c.in-Ok.ensures.front _ c.requires.planned).within, length-bits c.hand-hand.result.now, c.hand-hand.ensures.few)

pub skip-requires-in-Ok-put_shown : goal.skip-requires-in-Ok-put_shown
skip-requires-in-Ok-put_shown g c = omega (arith, (c.in-Ok.ensures.front _ c.requires.planned).within, length-bits c.hand-hand.result.now, ap length c.hand-hand.ensures.same, c.octets_of-size.ensures)

pub slice_bounds-put_shown-end : goal.slice_bounds-put_shown-end
slice_bounds-put_shown-end g c = rw c.octets_of-size.ensures (sym (held c.hand-hand.result.now c.in-Ok.bits (c.in-Ok.ensures.front _ c.requires.planned).within))

pub put_shown-requires-clause-packet : goal.put_shown-requires-clause-packet
put_shown-requires-clause-packet g c =
    let grammar = grammar_of c.args.checked.now.tree.root in
    let there = packet_there grammar c.hand-hand.result.now _ c.in-Ok.bits (c.in-Ok.ensures.front _ c.requires.planned) in
    rw (c.requires.same, c.octets_of-size.ensures) there

pub octets_of-requires : goal.octets_of-requires
octets_of-requires g c = omega (arith, c.in-Some.ensures.added.1.within, length-bits c.hand-hand.result.now, c.hand-hand.ensures.few)

pub skip-requires : goal.skip-requires
skip-requires g c = omega (arith, c.in-Some.ensures.added.1.within, length-bits c.hand-hand.result.now, ap length c.hand-hand.ensures.same, c.octets_of.ensures)

pub returns-in-Some-clause-step : goal.returns-in-Some-clause-step
returns-in-Some-clause-step g c =
    let there = c.in-Some.ensures.added in
    takes_skipped _ _ _ _ _ _ _ _ _ _ _ c.requires.bounded c.hand-hand.ensures.same c.octets_of.ensures (rw c.requires.same at there.1) c.skip.ensures there.2

pub returns-in-Ok-put_shown-clause-step : goal.returns-in-Ok-put_shown-clause-step
returns-in-Ok-put_shown-clause-step g c =
    let front = c.in-Ok.ensures.front (grammar_of c.args.checked.now.tree.root) c.requires.planned in
    takes_skipped _ _ _ _ _ _ _ _ _ _ _ c.requires.bounded c.hand-hand.ensures.same c.octets_of-size.ensures front c.skip-in-Ok-put_shown.ensures (rw (c.octets_of-size.ensures, c.in_default.ensures.kept refl) at c.in-Ok-put_shown.ensures.added)

pub returns-clause-step : goal.returns-clause-step
returns-clause-step g c =
    let grammar = grammar_of c.args.checked.now.tree.root in
    let hand = c.args.supply.now.hand in
    let same : c.hand-hand.result.now ≡ hand = c.hand-hand.ensures.same in
    let some = some_bytes c.hand-hand.result.now (sym c.is_empty.ensures ∙ c.if-is_empty.false) in
    let accepted : IsAccepted grammar = subst (λ (t : Tree). IsAccepted (grammar_of t.root)) c.tree-accepted.ensures.same c.tree-accepted.ensures.accepted in
    let why = paused grammar hand c.in-Err.refuse c.short_is_near.ensures accepted c.requires.bounded (rw same at some) (rw same at (c.in-Err.ensures.fault grammar c.requires.planned)) (rw same at (c.in-Err.ensures.only grammar c.requires.planned)) in
    let said : Pauses grammar hand c.pause_of.result × NotFull c.pause_of.result = rw c.pause_of.ensures why in
    (refl, c.in_default.ensures.kept refl, said.0, said.1)
