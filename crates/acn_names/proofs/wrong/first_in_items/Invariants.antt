use Rattle.std.proofs.Common.{◌≡◌, drop}
use Rattle.acn_index.specs.Views.{index_view}
use Rattle.std.specs.Prelude.{map, flat_map}
use Rattle.acn_world.specs.Cycles.{wrong_in}
use Rattle.acn_world.specs.Faults.{first}
use Rattle.acn_asn_syntax.specs.View.{assign_view}
use Rattle.acn_names.proofs.wrong.first_in_items.Given as goal

abbrev pub invariant-loop-item : goal.invariant-loop-item
invariant-loop-item l = first (flat_map (wrong_in (index_view l.index) l.k) (map assign_view (drop l.item-index l.items))) ≡ first (flat_map (wrong_in (index_view l.index) l.k) (map assign_view l.items))
