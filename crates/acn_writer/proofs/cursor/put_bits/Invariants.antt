use Rattle.std.proofs.Common.{◌+◌, ◌*◌, ◌/◌, ◌%◌, ◌≤◌, length, take}
use Rattle.acn_bits.specs.Writing.{Writes, place_of}
use Rattle.acn_writer.proofs.cursor.put_bits.Given as goal

abbrev pub invariant-loop-i : goal.invariant-loop-i
invariant-loop-i g l = record {
  done : Writes l.fn.cursor l.cursor (place_of l.fn.cursor) (take (length l.list % 64 + 64 * l.i) l.list) (place_of l.fn.cursor + (length l.list % 64 + 64 * l.i));
  upto : l.i ≤ length l.list / 64;
}
