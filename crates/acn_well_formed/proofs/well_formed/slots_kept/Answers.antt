use Rattle.std.proofs.Common.{sym, ◌∙◌}
use Rattle.acn_well_formed.specs.Seen.{slot_kept}
use Rattle.acn_grammar.specs.View.{grammar_of}
use Rattle.acn_well_formed.proofs.RangeSteps.{range_turn, range_stop}
use Rattle.acn_well_formed.proofs.well_formed.slots_kept.Goals as goal

pub loop-slot-preserved : goal.loop-slot-preserved
loop-slot-preserved c =
    range_turn (slot_kept (grammar_of c.args.root.now)) c.loop-slot.slot c.args.slots _ c.loop-slot-test.true (sym c.slot_kept.ensures ∙ c.if-not-slot_kept.false) c.loop-slot.invariant

pub returns-then-not-slot_kept : goal.returns-then-not-slot_kept
returns-then-not-slot_kept c =
    range_stop (slot_kept (grammar_of c.args.root.now)) c.loop-slot.slot c.args.slots _ c.loop-slot-test.true (sym c.slot_kept.ensures ∙ c.if-not-slot_kept.true) c.loop-slot.invariant
