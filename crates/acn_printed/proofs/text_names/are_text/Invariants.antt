use Rattle.std.proofs.Common.{drop}
use Rattle.acn_json.specs.RoundTrip.{NamesAreText}
use Rattle.acn_printed.proofs.text_names.are_text.Given as goal

abbrev pub invariant-loop-item : goal.invariant-loop-item
invariant-loop-item l = record {
  so_far : NamesAreText (drop l.item-index l.items) → NamesAreText l.items;
}
