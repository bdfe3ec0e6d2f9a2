use Rattle.std.proofs.Common.{◌≡◌, drop}
use Rattle.std.specs.Prelude.{map}
use Rattle.acn_acn_syntax.specs.View.{module_of}
use Rattle.acn_firsts.specs.Placed.{noted_all}
use Rattle.acn_index.specs.Keyed.{keyed, firsts, acn_name}
use Rattle.acn_index.proofs.maps.acn_of.Given as goal

abbrev pub invariant-loop-i : goal.invariant-loop-i
invariant-loop-i l = noted_all l.all (keyed acn_name l.i (map module_of (drop l.i l.modules))) ≡ firsts acn_name (map module_of l.modules)
