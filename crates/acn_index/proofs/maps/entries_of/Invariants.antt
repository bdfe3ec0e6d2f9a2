use Rattle.std.proofs.Common.{◌≡◌, drop}
use Rattle.std.specs.Prelude.{map}
use Rattle.acn_acn_syntax.specs.View.{entry_of}
use Rattle.acn_firsts.specs.Placed.{noted_all}
use Rattle.acn_index.specs.Keyed.{keyed, firsts, entry_name}
use Rattle.acn_index.proofs.maps.entries_of.Given as goal

abbrev pub invariant-loop-i : goal.invariant-loop-i
invariant-loop-i l = noted_all l.all (keyed entry_name l.i (map entry_of (drop l.i l.entries))) ≡ firsts entry_name (map entry_of l.entries)
