use Rattle.std.proofs.Common.{◌≡◌, drop, ◌++◌}
use Rattle.std.specs.Prelude.{filter_map}
use Rattle.acn_index.specs.Views.{index_view}
use Rattle.acn_mentions.specs.AcnMentioned.{acn_mentions_view}
use Rattle.acn_world.specs.Faults.{entry_target}
use Rattle.acn_world.proofs.referring.push_entry_targets.Given as goal

abbrev pub invariant-loop-mention : goal.invariant-loop-mention
invariant-loop-mention l = l.all.items ++ filter_map (entry_target (index_view l.index) l.k) (acn_mentions_view (drop l.mention-index l.mentions)) ≡ l.fn.all.items ++ filter_map (entry_target (index_view l.index) l.k) (acn_mentions_view l.mentions)
