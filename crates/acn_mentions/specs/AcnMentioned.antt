-- Mentions in the program's ACN entries as plain data.
use Rattle.std.specs.Prelude.{List, map}
use Rattle.acn_mentions.specs.Mentions as spec
use Rattle.acn_mentions.specs.declared.entry_mentions.AcnMention.{AcnMention}
use Rattle.acn_mentions.specs.declared.entry_mentions.AcnMention.TheVariants as mention

abbrev pub acn_mention_view : AcnMention → spec.AcnMention
acn_mention_view (mention.Parameter name) = spec.of_parameter name.now
acn_mention_view (mention.Field name) = spec.of_field name.now
acn_mention_view (mention.Table name) = spec.to_table name.now

abbrev pub acn_mentions_view : List AcnMention → List spec.AcnMention
acn_mentions_view ms = map acn_mention_view ms
