use Rattle.std.proofs.Common.{◌≡◌, ◌++◌, take}
use Rattle.acn_text.proofs.lister.add_end.Given as goal

abbrev pub invariant-loop-bit : goal.invariant-loop-bit
invariant-loop-bit l = l.list ≡ l.fn.list ++ take l.bit-index l.bit-items
