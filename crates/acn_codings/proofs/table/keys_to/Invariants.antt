use Rattle.std.proofs.Common.{◌≡◌, ◌++◌, drop}
use Rattle.std.specs.Prelude.{map}
use Rattle.acn_codings.specs.Tables.{line_of, line_keys}
use Rattle.acn_codings.proofs.table.keys_to.Given as goal

abbrev pub invariant-loop-written : goal.invariant-loop-written
invariant-loop-written l = l.sets.items ++ map (λ w. line_keys l.low l.high (line_of w)) (drop l.written-index l.lines) ≡ map (λ w. line_keys l.low l.high (line_of w)) l.lines
