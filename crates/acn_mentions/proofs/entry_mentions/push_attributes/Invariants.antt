use Rattle.std.proofs.Common.{◌≡◌, drop, ◌++◌}
use Rattle.std.specs.Prelude.{flat_map}
use Rattle.acn_mentions.specs.AcnMentioned.{acn_mentions_view}
use Rattle.acn_mentions.specs.Mentions.{attribute_mentions}
use Rattle.acn_mentions.proofs.entry_mentions.push_attributes.Given as goal

abbrev pub invariant-loop-attribute : goal.invariant-loop-attribute
invariant-loop-attribute l = acn_mentions_view l.all.items ++ flat_map attribute_mentions (drop l.attribute-index l.attributes) ≡ acn_mentions_view l.fn.all.items ++ flat_map attribute_mentions l.attributes
