use Rattle.std.proofs.Common.{◌≡◌, ◌++◌}
use Rattle.acn_lines.specs.Spots as spots
use Rattle.acn_lines.proofs.turns.turns_at.Given as goal

abbrev pub invariant-loop-name : goal.invariant-loop-name
invariant-loop-name l = l.turns ++ spots.turns_at l.name-iterator ≡ spots.turns_at l.known.entries
