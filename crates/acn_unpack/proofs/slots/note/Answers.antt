use Rattle.std.proofs.Common.{arith}
use Rattle.acn_unpack.proofs.slots.note.Goals as goal

pub note-requires : goal.note-requires
note-requires types c = (c.requires.free c.in-Some.slot c.in-Some.is).none

pub returns-else-note-clause-lack : goal.returns-else-note-clause-lack
returns-else-note-clause-lack types c =
    let f = c.requires.free c.in-Some.slot c.in-Some.is in
    let less = c.a_place_is_free.ensures f.around (types.T.SlotTable.env c.args.slots.now) c.in-Some.slot c.once.ensures f.within f.mine f.none in
    let few = f.few in
    let full = c.note.ensures.full c.if-note.false in
    omega (arith, less, few, full)
