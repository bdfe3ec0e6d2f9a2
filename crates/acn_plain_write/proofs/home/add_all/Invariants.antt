use Rattle.std.proofs.Common.{◌≡◌, ◌++◌, drop}
use Rattle.acn_plain_write.proofs.home.add_all.Given as goal

abbrev pub invariant-loop-number : goal.invariant-loop-number
invariant-loop-number l = l.numbers ++ drop l.number-index l.more ≡ l.fn.numbers ++ l.more
