use Rattle.std.proofs.Common.{◌≡◌, drop}
use Rattle.acn_grammar.specs.Tree.{holds}
use Rattle.acn_step_fields.proofs.locate.holds.Given as goal

abbrev pub invariant-loop-other : goal.invariant-loop-other
invariant-loop-other l = holds (drop l.other-index l.home) l.slot ≡ holds l.home l.slot
