use Rattle.std.proofs.Common.{◌≡◌, drop, map}
use Rattle.acn_check.specs.Facts.{facts_of}
use Rattle.acn_check.specs.Program.{tally_of}
use Rattle.acn_check.specs.First.{first_of, many_conditions}
use Rattle.acn_check.proofs.slots.all_have_few.Given as goal

abbrev pub invariant-loop-line : goal.invariant-loop-line
invariant-loop-line l = first_of (many_conditions (map tally_of l.tallies)) l.line-index (map facts_of (drop l.line-index l.lines)) ≡ first_of (many_conditions (map tally_of l.tallies)) 0 (map facts_of l.lines)
