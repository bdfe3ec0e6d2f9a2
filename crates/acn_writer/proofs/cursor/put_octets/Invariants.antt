use Rattle.std.proofs.Common.{◌+◌, ◌*◌, ◌/◌, ◌%◌, ◌≤◌, length, take}
use Rattle.acn_num.specs.Bits.{bits}
use Rattle.acn_bits.specs.Writing.{Writes, place_of}
use Rattle.acn_writer.proofs.cursor.put_octets.Given as goal

abbrev pub invariant-loop-i : goal.invariant-loop-i
invariant-loop-i g l = record {
  done : Writes l.fn.cursor l.cursor (place_of l.fn.cursor) (bits (take (length l.octets % 8 + 8 * l.i) l.octets)) (place_of l.fn.cursor + 8 * (length l.octets % 8 + 8 * l.i));
  upto : l.i ≤ length l.octets / 8;
}
