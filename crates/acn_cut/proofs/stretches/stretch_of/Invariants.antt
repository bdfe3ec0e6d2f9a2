use Rattle.std.proofs.Common.{◌≡◌, ◌≤◌, length, drop}
use Rattle.acn_bits.specs.declared.word.TheConstants.{WORD_BITS}
use Rattle.acn_grammar.specs.View.{fields_view}
use Rattle.acn_cut.specs.Stretches.{IsRun, total}
use Rattle.acn_cut.proofs.stretches.stretch_of.Given as goal

abbrev pub invariant-loop-field : goal.invariant-loop-field
invariant-loop-field l = record {
  count : length l.pieces ≡ l.field-index;
  width : l.width ≡ total l.pieces;
  few : l.width ≤ WORD_BITS;
  run : IsRun (fields_view l.fields) l.pieces (fields_view (drop l.field-index l.fields));
}
