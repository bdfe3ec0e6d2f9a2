use Rattle.std.proofs.Common.{◌/◌, ℕ, pos, refl, sym, ap, ◌∙◌, subst}
use Rattle.acn_num.specs.Ranges.{has}
use Rattle.acn_grammar.specs.declared.node.SizeRule.{SizeRule}
use Rattle.acn_events.specs.Event.{closes, octets_in}
use Rattle.acn_events.specs.Steps.{CanClose}
use Rattle.acn_writer.specs.Answers.{state_of}
use Rattle.acn_writer.specs.declared.halt.Halt.TheVariants.{Lost, Miscounts}
use Rattle.acn_writer.proofs.Endings.{on_err, on_ok}
use Rattle.acn_writer.proofs.States.{halts_still}
use Rattle.acn_writer.proofs.writer.Writer.close.Goals as goal

pub returns-in-Prefix-clause-ran : goal.returns-in-Prefix-clause-ran
returns-in-Prefix-clause-ran g c =
    let permitted = sym c.holds_natural.ensures ∙ c.if-not-holds_natural.false in
    on_ok c.close_sized.result c.close_sized.ensures.ran (λ all octets. all c.args.sizing.now octets c.in-Prefix.is permitted)

pub returns-in-Prefix-clause-halted : goal.returns-in-Prefix-clause-halted
returns-in-Prefix-clause-halted g c =
    let permitted = sym c.holds_natural.ensures ∙ c.if-not-holds_natural.false in
    on_err c.close_sized.result c.close_sized.ensures.halted (λ all octets. all c.args.sizing.now octets c.in-Prefix.is permitted)

pub returns-in-Slot-clause-ran : goal.returns-in-Slot-clause-ran
returns-in-Slot-clause-ran g c =
    let permitted = sym c.holds_natural.ensures ∙ c.if-not-holds_natural.false in
    on_ok c.close_asking.result c.close_asking.ensures.ran (λ all octets. all c.args.sizing.now octets c.in-Slot.is permitted)

pub returns-in-Slot-clause-halted : goal.returns-in-Slot-clause-halted
returns-in-Slot-clause-halted g c =
    let permitted = sym c.holds_natural.ensures ∙ c.if-not-holds_natural.false in
    on_err c.close_asking.result c.close_asking.ensures.halted (λ all octets. all c.args.sizing.now octets c.in-Slot.is permitted)

pub returns-then-not-holds_natural-clause-halted : goal.returns-then-not-holds_natural-clause-halted
returns-then-not-holds_natural-clause-halted g c octets =
    halts_still (λ path. closes path c.args.sizing.now octets) c.args.self.now _ (Miscounts (c.position-octets.result / 8)) c.tell.ensures (λ path. (refl, ap (λ (k : ℕ). k / 8) c.position-octets.ensures, sym c.holds_natural.ensures ∙ c.if-not-holds_natural.true))

pub returns-in-Ended-clause-halted : goal.returns-in-Ended-clause-halted
returns-in-Ended-clause-halted g c octets =
    let m = state_of c.args.self.now in
    halts_still (λ path. closes path c.args.sizing.now octets) c.args.self.now _ Lost c.tell-in-Ended.ensures (λ path can. subst (λ (r : SizeRule). CanClose r (octets_in m) (has c.args.sizing.now.sizes (pos (octets_in m))) m.contents m) c.in-Ended.is can)
