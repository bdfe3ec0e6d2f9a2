use Rattle.std.proofs.Common.{◌≡◌, drop}
use Rattle.acn_index.specs.Views.{index_view}
use Rattle.acn_mentions.specs.Mentioned.{mentions_view}
use Rattle.acn_world.specs.Unknown.{unknown_mentions}
use Rattle.acn_world.specs.Faults.{first}
use Rattle.acn_names.proofs.unknown.first_mention.Given as goal

abbrev pub invariant-loop-mention : goal.invariant-loop-mention
invariant-loop-mention l = first (unknown_mentions (index_view l.index) l.k (mentions_view (drop l.mention-index l.mentions))) ≡ first (unknown_mentions (index_view l.index) l.k (mentions_view l.mentions))
