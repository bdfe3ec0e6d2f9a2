use Rattle.std.proofs.Common.{◌≡◌, drop, ◌++◌}
use Rattle.acn_index.specs.Views.{index_view}
use Rattle.acn_mentions.specs.Mentioned.{mentions_view}
use Rattle.acn_world.specs.Cycles.{type_targets}
use Rattle.acn_cycles.proofs.targets.push_type_targets.Given as goal

abbrev pub invariant-loop-mention : goal.invariant-loop-mention
invariant-loop-mention l = l.all.items ++ type_targets (index_view l.index) l.k (mentions_view (drop l.mention-index l.mentions)) ≡ l.fn.all.items ++ type_targets (index_view l.index) l.k (mentions_view l.mentions)
