use Rattle.std.proofs.Common.{[], ◌∷◌}
use Rattle.acn_grammar.specs.View.{grammar_of}
use Rattle.acn_words.specs.Requests.{work}
use Rattle.acn_words.specs.View.{type_view}
use Rattle.acn_world.specs.Viewed.{world_view}
use Rattle.acn_commands.specs.Steps.{IsSummaryLine}
use Rattle.acn_commands.proofs.Printing.{ends_serve}
use Rattle.acn_commands.proofs.answers.work.Goals as goal

pub returns-in-Ok : goal.returns-in-Ok
returns-in-Ok g c = λ names.
    let tree = c.in-Ok.checked.tree in
    ends_serve (work (type_view c.args.of.now) c.args.start c.args.count names) (world_view c.args.world.now) (tree ∷ []) c.in-Ok.ensures.grammars (IsSummaryLine (grammar_of tree.root) c.args.start c.args.count) (λ text h. h)
    _ _ _ _ _ c.summary.result c.in-Ok.ensures.silent c.summary.ensures
