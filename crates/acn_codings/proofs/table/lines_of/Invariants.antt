use Rattle.std.proofs.Common.{◌≡◌, ◌++◌, drop}
use Rattle.std.specs.Prelude.{map}
use Rattle.acn_codings.specs.Tables.{line_of}
use Rattle.acn_codings.proofs.table.lines_of.Given as goal

abbrev pub invariant-loop-line : goal.invariant-loop-line
invariant-loop-line l = l.all.items ++ map line_of (drop l.line-index l.lines) ≡ map line_of l.lines
