use Rattle.std.proofs.Common.{◌≡◌, drop}
use Rattle.std.specs.Prelude.{map}
use Rattle.acn_acn_syntax.specs.View.{field_of}
use Rattle.acn_firsts.specs.Placed.{noted_all}
use Rattle.acn_index.specs.Keyed.{keyed, firsts}
use Rattle.acn_slots.specs.Listed.{text_key}
use Rattle.acn_slots.proofs.places.text_places.Given as goal

abbrev pub invariant-loop-i : goal.invariant-loop-i
invariant-loop-i l = noted_all l.all (keyed text_key l.i (map field_of (drop l.i l.fields))) ≡ firsts text_key (map field_of l.fields)
