use Rattle.std.proofs.Common.{◌≡◌, ◌++◌, drop}
use Rattle.std.specs.Prelude.{map}
use Rattle.acn_codings.specs.Tables.{keys}
use Rattle.acn_codings.proofs.table.all_keys.Given as goal

abbrev pub invariant-loop-line : goal.invariant-loop-line
invariant-loop-line l = l.sets.items ++ map keys (drop l.line-index l.lines) ≡ map keys l.lines
