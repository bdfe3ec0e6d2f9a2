use Rattle.std.proofs.Common.{◌≡◌, drop, pos}
use Rattle.std.specs.List.{list_all}
use Rattle.acn_num.specs.Ranges.{has}
use Rattle.acn_defaults.proofs.text.are_permitted.Given as goal

abbrev pub invariant-loop-c : goal.invariant-loop-c
invariant-loop-c l = list_all (λ c. has l.permitted (pos c)) (drop l.c-index l.text) ≡ list_all (λ c. has l.permitted (pos c)) l.text
