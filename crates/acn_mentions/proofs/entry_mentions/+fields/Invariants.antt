use Rattle.std.proofs.Common.{◌≡◌, drop, ◌++◌}
use Rattle.acn_acn_syntax.specs.View.{fields_view}
use Rattle.acn_mentions.specs.AcnMentioned.{acn_mentions_view}
use Rattle.acn_mentions.specs.Mentions.{fields_mentions}
use Rattle.acn_mentions.proofs.entry_mentions.+fields.Given as goal

abbrev pub invariant-push_fields-loop-field : goal.invariant-push_fields-loop-field
invariant-push_fields-loop-field l = acn_mentions_view l.all.items ++ fields_mentions (fields_view (drop l.field-index l.fields)) ≡ acn_mentions_view l.fn.all.items ++ fields_mentions (fields_view l.fields)
