use Rattle.std.proofs.Common.{◌≡◌, drop, ◌++◌}
use Rattle.acn_index.specs.Views.{index_view}
use Rattle.acn_repeated.specs.Named.{names_view}
use Rattle.acn_world.specs.Unknown.{acn_unknown_mentions}
use Rattle.acn_mentions.specs.AcnMentioned.{acn_mentions_view}
use Rattle.acn_names.proofs.unknown_acn.push_mentions.Given as goal

abbrev pub invariant-loop-mention : goal.invariant-loop-mention
invariant-loop-mention l = names_view l.all.items ++ acn_unknown_mentions (index_view l.index) l.owner (acn_mentions_view (drop l.mention-index l.mentions)) ≡ names_view l.fn.all.items ++ acn_unknown_mentions (index_view l.index) l.owner (acn_mentions_view l.mentions)
