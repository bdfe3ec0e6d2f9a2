use Rattle.std.proofs.Common.{◌≡◌, ◌-◌, drop, length}
use Rattle.acn_constraint.specs.Sets.{letters, letters_behind}
use Rattle.acn_set_elements.specs.Written.{unquoted, unquoted_rest}
use Rattle.acn_constraint.proofs.letters.letters.Given as goal

abbrev pub invariant-loop-at : goal.invariant-loop-at
invariant-loop-at l = letters_behind l.found (unquoted_rest (drop l.at l.token)) ≡ letters (unquoted l.token)

abbrev pub decreases-loop-at : goal.decreases-loop-at
decreases-loop-at l = length l.token - l.at
