use Rattle.std.proofs.Common.{refl}
use Rattle.acn_explain.specs.Explaining.{ExplainEnds}
use Rattle.acn_words.specs.Requests.{explain}
use Rattle.acn_words.specs.View.{type_view}
use Rattle.acn_world.specs.Viewed.{world_view}
use Rattle.acn_commands.specs.declared.streams.TheConstants.{MOST_INPUT_BYTES}
use Rattle.acn_commands.proofs.Streaming.{stream_serves}
use Rattle.acn_commands.proofs.answers.explain.Goals as goal

pub returns-in-Ok : goal.returns-in-Ok
returns-in-Ok g c = λ names.
    stream_serves (explain (type_view c.args.of.now) names) (world_view c.args.world.now) c.in-Ok.checked.tree c.in-Ok.ensures.grammars (ExplainEnds c.in-Ok.checked.tree MOST_INPUT_BYTES) (λ b a r e. e) refl
    _ _ _ _ _ _ _ _ _ c.explain.result c.in-Ok.ensures.silent c.explain.ensures
