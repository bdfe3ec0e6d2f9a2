use Rattle.std.proofs.Common.{◌≡◌, ◌-◌, ◌++◌, length, take, drop}
use Rattle.std.specs.List.{find, range_with_len}
use Rattle.acn_grammar.specs.Asks.{same_name}
use Rattle.acn_grammar.specs.Meets.{first_end}
use Rattle.acn_terminators.proofs.ends.first_of_octets.Given as goal

abbrev pub invariant-loop-i : goal.invariant-loop-i
invariant-loop-i l =
    find (λ i. same_name (take (length l.end) (drop i (l.text ++ l.end))) l.end) (range_with_len l.i (length l.text - l.i)) ≡ first_end l.end l.text
