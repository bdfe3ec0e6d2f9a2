use Rattle.std.proofs.Common.{◌<◌, length, arith}
use Rattle.acn_check.specs.Program.{use_of, tally_of}
use Rattle.acn_check.proofs.Tallying.{noted}
use Rattle.acn_check.proofs.tallies.note.Goals as goal

pub returns-then-slot-len : goal.returns-then-slot-len
returns-then-slot-len c =
    let within : c.slot_named-slot.result < length c.args.tallies.now.items = omega arith in
    noted tally_of c.args.tallies.now.items (use_of c.args.named) c.slot_named-slot.result c.index.result.now c.raised.result c.slot_named-slot.ensures within c.index.ensures c.raised.ensures
