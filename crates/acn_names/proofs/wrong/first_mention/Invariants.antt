use Rattle.std.proofs.Common.{◌≡◌, drop}
use Rattle.acn_index.specs.Views.{index_view}
use Rattle.std.specs.Prelude.{flat_map}
use Rattle.acn_world.specs.Repeated.{when}
use Rattle.acn_mentions.specs.Mentioned.{mentions_view}
use Rattle.acn_world.specs.Unknown.{mention_name}
use Rattle.acn_world.specs.Cycles.{is_wrong}
use Rattle.acn_world.specs.Faults.{first}
use Rattle.acn_names.proofs.wrong.first_mention.Given as goal

abbrev pub invariant-loop-mention : goal.invariant-loop-mention
invariant-loop-mention l = first (flat_map (λ m. when (is_wrong (index_view l.index) l.k m) (mention_name m)) (mentions_view (drop l.mention-index l.mentions))) ≡ first (flat_map (λ m. when (is_wrong (index_view l.index) l.k m) (mention_name m)) (mentions_view l.mentions))
