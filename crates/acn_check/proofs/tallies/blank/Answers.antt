use Rattle.std.proofs.Common.{refl}
use Rattle.acn_check.specs.Program.{tally_of}
use Rattle.acn_check.proofs.Tallying.{blank_more}
use Rattle.acn_check.proofs.tallies.blank.Goals as goal

pub loop-slot-preserved : goal.loop-slot-preserved
loop-slot-preserved c = blank_more tally_of c.loop-slot.tallies.items c.push.new.self.items (record { used = Rattle.std.proofs.Common.false; equals = 0 }) c.loop-slot._slot c.loop-slot.invariant c.in_ok-push.ensures.items refl
