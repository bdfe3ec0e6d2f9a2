use Rattle.std.proofs.Common.{◌≡◌, drop, map}
use Rattle.acn_check.specs.Facts.{facts_of}
use Rattle.acn_check.specs.First.{first_of, mixed_at}
use Rattle.acn_check.proofs.choices.none_mixed.Given as goal

abbrev pub invariant-loop-line : goal.invariant-loop-line
invariant-loop-line l = first_of (mixed_at) l.line-index (map facts_of (drop l.line-index l.lines)) ≡ first_of (mixed_at) 0 (map facts_of l.lines)
