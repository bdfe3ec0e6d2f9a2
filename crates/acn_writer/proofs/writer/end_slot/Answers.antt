use Rattle.std.proofs.Common.{rules, sym, subst}
use Rattle.std.proofs.lemmas.Nat.{pow_pos}
use Rattle.acn_writer.specs.Ending.{SlotsPassed}
use Rattle.acn_writer.proofs.Abandoned.{behind_filled, slots_passed}
use Rattle.acn_writer.proofs.writer.end_slot.Goals as goal

pub fill-requires : goal.fill-requires
fill-requires g c =
    let hole = c.end_opened-hole.result.hole in
    (search rules, (c.requires.passed c.args.slot hole c.requires.begun c.end_opened-hole.ensures.hole, pow_pos hole.width))

pub returns-in-Some-clause-passed : goal.returns-in-Some-clause-passed
returns-in-Some-clause-passed g c =
    subst (SlotsPassed c.end_opened-hole.new.self.table) (sym c.fill.ensures.moved) (slots_passed c.args.slot c.args.slots.now.table c.end_opened-hole.new.self.table c.args.cursor.now.at c.end_opened-hole.ensures.ended c.requires.passed)

pub returns-in-Some-clause-behind : goal.returns-in-Some-clause-behind
returns-in-Some-clause-behind g c =
    let hole = c.end_opened-hole.result.hole in
    behind_filled c.args.cursor.now c.fill.new.self hole.place hole.width 0 c.fill.ensures (c.requires.passed c.args.slot hole c.requires.begun c.end_opened-hole.ensures.hole)
