use Rattle.std.proofs.Common.{◌≡◌, ◌≤◌, ◌+◌, map, drop}
use Rattle.acn_single.specs.Lines.{few, all_seen_uses, line_of}
use Rattle.acn_single.proofs.uses.is_used_twice.Given as goal

abbrev pub invariant-loop-line : goal.invariant-loop-line
invariant-loop-line l = record {
  value : few (l.count + all_seen_uses l.slot (map line_of (drop l.line-index l.lines))) ≡ few (all_seen_uses l.slot (map line_of l.lines));
  small : l.count ≤ 1;
}
