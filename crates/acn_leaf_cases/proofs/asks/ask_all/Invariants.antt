use Rattle.std.proofs.Common.{◌≡◌}
use Rattle.acn_fill.specs.Table.{frames}
use Rattle.acn_leaf_cases.proofs.asks.ask_all.Given as goal

abbrev pub invariant-loop-word : goal.invariant-loop-word
invariant-loop-word l = record {
  slots : frames l.fills.spots ≡ frames l.initial.fills.spots;
  holes : l.fills.gaps ≡ l.initial.fills.gaps;
}
