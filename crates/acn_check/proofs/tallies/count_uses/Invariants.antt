use Rattle.std.proofs.Common.{◌≡◌, drop, map}
use Rattle.std.specs.List.{flat_map}
use Rattle.acn_check.specs.Facts.{facts_of}
use Rattle.acn_check.specs.Program.{tally_of}
use Rattle.acn_check.specs.First.{tallied, uses_of}
use Rattle.acn_check.proofs.tallies.count_uses.Given as goal

abbrev pub invariant-loop-line : goal.invariant-loop-line
invariant-loop-line l = tallied (map tally_of l.tallies.items) (flat_map uses_of (map facts_of (drop l.line-index l.lines))) ≡ tallied (map tally_of l.initial.tallies.items) (flat_map uses_of (map facts_of l.lines))
