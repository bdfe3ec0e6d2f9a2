use Rattle.std.proofs.Common.{◌≡◌, ◌++◌, length, take, drop}
use Rattle.acn_grammar.specs.Asks.{same_name}
use Rattle.acn_terminators.proofs.ends.ends_at.Given as goal

abbrev pub invariant-loop-k : goal.invariant-loop-k
invariant-loop-k l =
    same_name (drop l.k (take (length l.end) (drop l.i (l.text ++ l.end)))) (drop l.k l.end) ≡ same_name (take (length l.end) (drop l.i (l.text ++ l.end))) l.end
