use Rattle.std.proofs.Common.{◌≡◌, drop}
use Rattle.acn_firsts.specs.Placed.{noted_all}
use Rattle.acn_index.specs.Keyed.{keyed, firsts, import_names}
use Rattle.acn_index.proofs.maps.imported_of.Given as goal

abbrev pub invariant-loop-i : goal.invariant-loop-i
invariant-loop-i l = noted_all l.all (keyed import_names l.i (drop l.i l.imports)) ≡ firsts import_names l.imports
