use Rattle.std.proofs.Common.{◌≡◌, [], drop}
use Rattle.acn_firsts.specs.Placed.{noted_all}
use Rattle.acn_plan.specs.Program.{numbered}
use Rattle.acn_plan.proofs.items.number_items.Given as goal

abbrev pub invariant-loop-i : goal.invariant-loop-i
invariant-loop-i l = record { noted : noted_all l.names (numbered l.i (drop l.i l.items)) ≡ noted_all [] (numbered 0 l.items) }
