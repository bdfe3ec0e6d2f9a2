use Rattle.std.proofs.Common.{ℕ, List, subst}
use Rattle.acn_print.specs.Printing.{Prints}
use Rattle.acn_words.specs.Requests.{check}
use Rattle.acn_world.specs.Viewed.{world_view}
use Rattle.acn_commands.proofs.Serving.{text_serves}
use Rattle.acn_commands.proofs.answers.check.Goals as goal

pub returns-in-Ok : goal.returns-in-Ok
returns-in-Ok g c = λ names.
    let told = c.in-Ok.ensures.lines in
    let prints = subst (λ (text : List ℕ). Prints text (g.O.Sink.taken c.args.out.now, g.O.Sink.faults c.args.out.now) (g.O.Sink.taken c.put_piece.new.out, g.O.Sink.faults c.put_piece.new.out) c.put_piece.result) c.deref.ensures.value c.put_piece.ensures in
    text_serves (check names) (world_view c.args.world.now) told.trees c.in-Ok.text.items told.answers told.is c.put_piece.result c.behind_text.result _ _ _ _ _ c.in-Ok.ensures.silent prints c.behind_text.ensures.done c.behind_text.ensures.failed
