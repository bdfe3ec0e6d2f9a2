use Rattle.std.proofs.Common.{◌≡◌, drop}
use Rattle.std.specs.Prelude.{map}
use Rattle.acn_asn_syntax.specs.View.{component_view}
use Rattle.acn_firsts.specs.Placed.{noted_all}
use Rattle.acn_index.specs.Keyed.{keyed, firsts}
use Rattle.acn_slots.specs.Listed.{component_key}
use Rattle.acn_slots.proofs.places.component_places.Given as goal

abbrev pub invariant-loop-i : goal.invariant-loop-i
invariant-loop-i l = noted_all l.all (keyed component_key l.i (map component_view (drop l.i l.components))) ≡ firsts component_key (map component_view l.components)
