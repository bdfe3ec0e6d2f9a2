use Rattle.std.proofs.Common.{◌≡◌, drop}
use Rattle.acn_grammar.specs.Tree.{holds}
use Rattle.acn_transcode.proofs.slots.is_among.Given as goal

abbrev pub invariant-loop-other : goal.invariant-loop-other
invariant-loop-other l = holds (drop l.other-index l.slots) l.slot ≡ holds l.slots l.slot
