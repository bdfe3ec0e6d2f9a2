use Rattle.std.proofs.Common.{◌≡◌, drop, pos, not}
use Rattle.std.specs.List.{position_from}
use Rattle.acn_num.specs.Ranges.{has}
use Rattle.acn_step_breach.proofs.leaves.characters_meet.Given as goal

abbrev pub invariant-loop-c : goal.invariant-loop-c
invariant-loop-c l = record {
  index : l.index ≡ l.c-index;
  same : position_from (λ c. not (has l.alphabet (pos c))) l.c-index (drop l.c-index l.text) ≡ position_from (λ c. not (has l.alphabet (pos c))) 0 l.text;
}
