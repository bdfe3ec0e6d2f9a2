use Rattle.std.proofs.Common.{◌≡◌, length}
use Rattle.acn_grammar.specs.Asks.{same_name}
use Rattle.acn_grammar.specs.Leaves.{all_differ}
use Rattle.acn_well_formed.proofs.Blocks.{case_names}
use Rattle.acn_well_formed.proofs.names.alternative_names_differ.Given as goal

abbrev pub invariant-loop-rest : goal.invariant-loop-rest
invariant-loop-rest l = all_differ same_name (case_names l.rest) ≡ all_differ same_name (case_names l.alternatives)

abbrev pub decreases-loop-rest : goal.decreases-loop-rest
decreases-loop-rest l = length l.rest
