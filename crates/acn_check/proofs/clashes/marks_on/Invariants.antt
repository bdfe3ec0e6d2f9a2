use Rattle.std.proofs.Common.{◌≡◌, ◌++◌, drop}
use Rattle.std.specs.Prelude.{option_map}
use Rattle.acn_check.specs.First.{marks_on}
use Rattle.acn_check.specs.Program.{cases_of}
use Rattle.acn_check.proofs.clashes.marks_on.Given as goal

abbrev pub invariant-loop-alternative : goal.invariant-loop-alternative
invariant-loop-alternative l = option_map (λ xs. l.marks.items ++ xs) (marks_on l.slots (cases_of (drop l.alternative-index l.alternatives))) ≡ marks_on l.slots (cases_of l.alternatives)
