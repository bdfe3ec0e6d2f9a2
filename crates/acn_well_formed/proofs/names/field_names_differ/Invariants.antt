use Rattle.std.proofs.Common.{◌≡◌, length}
use Rattle.acn_grammar.specs.Asks.{same_name}
use Rattle.acn_grammar.specs.Leaves.{all_differ}
use Rattle.acn_well_formed.proofs.Blocks.{names}
use Rattle.acn_well_formed.proofs.names.field_names_differ.Given as goal

abbrev pub invariant-loop-rest : goal.invariant-loop-rest
invariant-loop-rest l = all_differ same_name (names l.rest) ≡ all_differ same_name (names l.fields)

abbrev pub decreases-loop-rest : goal.decreases-loop-rest
decreases-loop-rest l = length l.rest
