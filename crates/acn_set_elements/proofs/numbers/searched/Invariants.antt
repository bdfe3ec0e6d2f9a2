use Rattle.std.proofs.Common.{◌≡◌, drop}
use Rattle.acn_set_elements.specs.Written.{named_in}
use Rattle.acn_set_elements.proofs.numbers.searched.Given as goal

abbrev pub invariant-loop-named : goal.invariant-loop-named
invariant-loop-named l = named_in (drop l.named-index l.names) l.name ≡ named_in l.names l.name
