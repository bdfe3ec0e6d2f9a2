use Rattle.std.proofs.Common.{◌+◌, ◌*◌, ◌/◌, ◌%◌, ◌≤◌, false, replicate}
use Rattle.acn_bits.specs.Writing.{Writes, place_of}
use Rattle.acn_writer.proofs.cursor.put_zeros.Given as goal

abbrev pub invariant-loop-word : goal.invariant-loop-word
invariant-loop-word g l = record {
  done : Writes l.fn.cursor l.cursor (place_of l.fn.cursor) (replicate (l.n % 64 + 64 * l.word) false) (place_of l.fn.cursor + (l.n % 64 + 64 * l.word));
  upto : l.word ≤ l.n / 64;
}
