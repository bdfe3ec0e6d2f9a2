use Rattle.std.proofs.Common.{◌≡◌, ◌≤◌, length, take}
use Rattle.acn_lines.proofs.spare.Spare.cut.Given as goal

abbrev pub invariant-loop-elements : goal.invariant-loop-elements
invariant-loop-elements l = record {
  within : l.size ≤ length l.elements.items;
  same : take l.size l.elements.items ≡ take l.size l.initial.elements.items;
}

abbrev pub decreases-loop-elements : goal.decreases-loop-elements
decreases-loop-elements l = length l.elements.items
