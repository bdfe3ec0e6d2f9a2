-- An entry of a map from numbers to names as a name with its number.
use Rattle.std.specs.Prelude.{ℤ}
use Rattle.std.specs.Borrow.{Bor}
use Rattle.acn_num.specs.Names.{Name}
use Rattle.acn_written.specs.Items.{Numbered}

abbrev pub keyed_view : ℤ × Bor Name → Numbered
keyed_view e = (e.1.now, e.0)
