use Rattle.std.proofs.Common.{◌≡◌, drop}
use Rattle.acn_firsts.specs.Placed.{noted_all}
use Rattle.acn_index.specs.Keyed.{keyed, firsts, table_name}
use Rattle.acn_index.proofs.maps.tables_of.Given as goal

abbrev pub invariant-loop-i : goal.invariant-loop-i
invariant-loop-i l = noted_all l.all (keyed table_name l.i (drop l.i l.tables)) ≡ firsts table_name l.tables
