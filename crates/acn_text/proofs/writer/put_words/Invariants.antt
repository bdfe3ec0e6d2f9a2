use Rattle.std.proofs.Common.{◌+◌, ◌*◌, ◌/◌, ◌≤◌, length, take}
use Rattle.acn_bits.specs.Writing.{Writes, place_of}
use Rattle.acn_text.specs.Steps.{character_bits}
use Rattle.acn_text.proofs.writer.put_words.Given as goal

abbrev pub invariant-loop-i : goal.invariant-loop-i
invariant-loop-i g l = record {
  done : Writes l.fn.cur l.cur (place_of l.fn.cur) (character_bits l.leaf (take (8 * l.i) l.text)) (place_of l.fn.cur + l.leaf.width * (8 * l.i));
  upto : l.i ≤ length l.text / 8;
}
