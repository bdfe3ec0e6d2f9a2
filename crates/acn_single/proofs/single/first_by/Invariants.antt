use Rattle.std.proofs.Common.{◌≡◌, map, drop}
use Rattle.acn_single.specs.Lines.{first_seen, first_by, shows, line_of}
use Rattle.acn_single.proofs.single.first_by.Given as goal

abbrev pub invariant-loop-line : goal.invariant-loop-line
invariant-loop-line l = first_seen (shows (map line_of l.lines) l.why) (map line_of (drop l.line-index l.lines)) ≡ first_by (map line_of l.lines) l.why
