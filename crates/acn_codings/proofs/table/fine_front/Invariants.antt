use Rattle.std.proofs.Common.{◌≡◌, ◌≤◌, ◌-◌, ◌&&◌, true, take, length}
use Rattle.std.specs.List.{list_all}
use Rattle.acn_grammar.specs.Leaves.{line_fine, share, all_differ}
use Rattle.acn_codings.proofs.table.fine_front.Given as goal

abbrev pub invariant-loop-fine : goal.invariant-loop-fine
invariant-loop-fine l = record {
  long : l.end ≤ length l.lines;
  within : l.fine ≤ length l.lines;
  good : (list_all line_fine (take l.fine l.lines) && all_differ share (take l.fine l.lines)) ≡ true;
}

abbrev pub decreases-loop-fine : goal.decreases-loop-fine
decreases-loop-fine l = l.end - l.fine
