use Rattle.std.proofs.Common.{◌≡◌, ◌-◌, ◌++◌, drop, length}
use Rattle.acn_set_elements.specs.Written.{unquoted, unquoted_rest}
use Rattle.acn_defaults.proofs.text.characters.Given as goal

abbrev pub invariant-loop-at : goal.invariant-loop-at
invariant-loop-at l = l.found.items ++ unquoted_rest (drop l.at l.token) ≡ unquoted l.token

abbrev pub decreases-loop-at : goal.decreases-loop-at
decreases-loop-at l = length l.token - l.at
