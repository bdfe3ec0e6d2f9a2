use Rattle.std.proofs.Common.{◌≡◌, ◌++◌, drop, map}
use Rattle.acn_codings.specs.Tables.{line_of}
use Rattle.acn_leaves.proofs.leaf.table_of.Given as goal

abbrev pub invariant-loop-line : goal.invariant-loop-line
invariant-loop-line l = l.lines ++ map line_of (drop l.line-index l.table.lines) ≡ map line_of l.table.lines
