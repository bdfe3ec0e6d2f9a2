use Rattle.std.proofs.Common.{◌≡◌, drop, not}
use Rattle.std.specs.List.{list_all, list_any}
use Rattle.acn_leaf.specs.Sides.{meet, range_of}
use Rattle.acn_leaf.proofs.line_blocks.none_meets.Given as goal

abbrev pub invariant-loop-line : goal.invariant-loop-line
invariant-loop-line l = list_all (λ line. not (list_any (meet (range_of l.side line)) l.ranges)) (drop l.line-index l.lines) ≡ list_all (λ line. not (list_any (meet (range_of l.side line)) l.ranges)) l.lines
