use Rattle.std.proofs.Common.{◌≡◌, ◌-◌, ◌++◌}
use Rattle.acn_num.specs.Bits.{low_bits}
use Rattle.acn_num.proofs.bit_list.BitList.push_number.Given as goal

abbrev pub invariant-loop-i : goal.invariant-loop-i
invariant-loop-i l = l.self ++ low_bits (l.width - l.i) l.v ≡ l.fn.self ++ low_bits l.width l.v
