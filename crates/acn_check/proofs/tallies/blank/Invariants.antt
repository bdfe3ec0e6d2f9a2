use Rattle.std.proofs.Common.{◌≡◌, map}
use Rattle.acn_check.specs.Program.{tally_of}
use Rattle.acn_check.specs.First.{no_tallies}
use Rattle.acn_check.proofs.tallies.blank.Given as goal

abbrev pub invariant-loop-slot : goal.invariant-loop-slot
invariant-loop-slot l = map tally_of l.tallies.items ≡ no_tallies l._slot
