use Rattle.std.proofs.Common.{◌≡◌, drop, ◌++◌}
use Rattle.std.specs.Prelude.{flat_map}
use Rattle.acn_mentions.specs.AcnMentioned.{acn_mentions_view}
use Rattle.acn_mentions.specs.Mentions.{parameter_mentions}
use Rattle.acn_mentions.proofs.entry_mentions.push_parameters.Given as goal

abbrev pub invariant-loop-parameter : goal.invariant-loop-parameter
invariant-loop-parameter l = acn_mentions_view l.all.items ++ flat_map parameter_mentions (drop l.parameter-index l.parameters) ≡ acn_mentions_view l.fn.all.items ++ flat_map parameter_mentions l.parameters
