use Rattle.std.proofs.Common.{ap, ◌∙◌}
use Rattle.std.specs.Int.{w128}
use Rattle.std.proofs.lemmas.Int.{to_z-of_z}
use Rattle.acn_grammar.specs.Asks.{Avoid}
use Rattle.acn_writer.specs.Slots.{OpenSlots}
use Rattle.acn_writer.proofs.Asking.{asks_full, asks_unmet}
use Rattle.acn_writer.proofs.Tables.{tied_answered}
use Rattle.acn_writer.proofs.slots.Slots.avoid.Goals as goal
use Rattle.acn_writer.proofs.slots.Slots.avoid.Goals.{in-Ok, in-Err}

pub invariant_of-self : goal.invariant_of-self
invariant_of-self g c =
    let plain = to_z-of_z w128 c.args.k c.ranges.k in
    let kept = rw plain at c.avoid.ensures.kept in
    tied_answered c.args.slot (Avoid c.args.k) c.self.inside.fills c.avoid.new.self c.self.inside.leaves.items c.avoid.result kept c.avoid.ensures.same c.self.invariant

pub returns-then-not-can_avoid-clause-halted : goal.returns-then-not-can_avoid-clause-halted
returns-then-not-can_avoid-clause-halted g c =
    let plain = to_z-of_z w128 c.args.k c.ranges.k in
    let full = rw plain at c.can_avoid.ensures.full c.if-not-can_avoid.true in
    asks_full g.row.S g.row.A c.args.slot c.args.self.now.table c.self.inside.fills _ (ap (λ (z : OpenSlots). z.table) c.self.view_is) c.args.k c.tell.ensures full

pub returns-clause-halted : goal.returns-clause-halted
returns-clause-halted g c =
    let plain = to_z-of_z w128 c.args.k c.ranges.k in
    elim c.match-avoid.branch [
      | in-Ok w ↦ rw w.result-is tt
      | in-Err w ↦ rw w.result-is
          (asks_unmet g.row.S g.row.A c.args.slot c.args.self.now.table c.self.inside.fills c.match-avoid.why (ap (λ (z : OpenSlots). z.table) c.self.view_is) (Avoid c.args.k) _ _ (w.why-is ∙ (w.tell-in-Err.ensures ∙ w.unmet.ensures)) c.requires.begun (rw plain at w.in-Err.ensures.refused) (rw plain at w.in-Err.ensures.wanted))
    ]
