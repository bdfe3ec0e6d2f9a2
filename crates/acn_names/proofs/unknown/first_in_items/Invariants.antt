use Rattle.std.proofs.Common.{◌≡◌, drop}
use Rattle.acn_index.specs.Views.{index_view}
use Rattle.std.specs.Prelude.{map, flat_map}
use Rattle.acn_asn_syntax.specs.View.{assign_view}
use Rattle.acn_mentions.specs.Mentions.{assign_mentions}
use Rattle.acn_world.specs.Unknown.{unknown_mentions}
use Rattle.acn_world.specs.Faults.{first}
use Rattle.acn_names.proofs.unknown.first_in_items.Given as goal

abbrev pub invariant-loop-item : goal.invariant-loop-item
invariant-loop-item l = first (flat_map (λ a. unknown_mentions (index_view l.index) l.k (assign_mentions a)) (map assign_view (drop l.item-index l.items))) ≡ first (flat_map (λ a. unknown_mentions (index_view l.index) l.k (assign_mentions a)) (map assign_view l.items))
