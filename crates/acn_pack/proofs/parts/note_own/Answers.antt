use Rattle.std.proofs.Common.{rules, FitsSigned, ◌≡◌, ℕ, ℤ, ◌∷◌, [], Option, sym, ap, ◌∙◌, subst}
use Rattle.std.specs.Prelude.{OnErr, OnOk}
use Rattle.std.proofs.lemmas.Int.{to_z-of_z}
use Rattle.std.specs.Int.{w128}
use Rattle.acn_grammar.specs.Grammar.{node, num}
use Rattle.acn_grammar.specs.Length.{number_of}
use Rattle.acn_grammar.specs.View.{data_of}
use Rattle.acn_events.specs.Event.{notes}
use Rattle.acn_events.specs.Events.{own_events}
use Rattle.acn_writer.specs.Answers.{Comes, HaltsFor}
use Rattle.acn_pack.proofs.Ways.{nothing, one, packs_as}
use Rattle.acn_pack.proofs.parts.note_own.Goals as goal

pub returns-in-None : goal.returns-in-None
returns-in-None g c = λ align path.
    let own = λ (s : Option ℕ). own_events path s (node align (num c.args.leaf.now)) (data_of c.args.v.now) in
    nothing (own c.args.slot) c.args.w.now (ap own c.in-None.is)

pub returns-in-Some : goal.returns-in-Some
returns-in-Some g c = λ align path.
    let own = λ (s : Option ℕ). own_events path s (node align (num c.args.leaf.now)) (data_of c.args.v.now) in
    let set = c.args.leaf.now.set in
    let slot = c.in-Some.slot in
    let x = number_of (data_of c.args.v.now) in
    let fits : FitsSigned w128 c.number-x.result = search rules in
    let e : _ ≡ x = to_z-of_z w128 c.number-x.result fits ∙ c.number-x.ensures in
    packs_as (notes path slot set x ∷ []) (own c.args.slot) c.args.w.now c.note.new.self path c.note.new.why c.note.result (ap own (sym c.in-Some.is))
    (one (λ p. notes p slot set x) c.args.w.now c.note.new.self path c.note.new.why c.note.result
    (subst (λ (z : ℤ). OnOk c.note.result (Comes (λ p. notes p slot set z) c.args.w.now c.note.new.self)) e c.note.ensures.ran)
    (subst (λ (z : ℤ). OnErr c.note.result (HaltsFor (λ p. notes p slot set z) c.args.w.now c.note.new.self c.note.new.why)) e c.note.ensures.halted))
