use Rattle.std.proofs.Common.{ℕ, List, [], ◌∷◌, append-nil, refl, sym, subst}
use Rattle.std.specs.List.{flat_map}
use Rattle.acn_layout.specs.Layout.{layout_text}
use Rattle.acn_print.specs.Printing.{Prints}
use Rattle.acn_words.specs.Requests.{layout}
use Rattle.acn_words.specs.View.{type_view}
use Rattle.acn_world.specs.Viewed.{world_view}
use Rattle.acn_commands.proofs.Serving.{text_serves}
use Rattle.acn_commands.proofs.answers.layout.Goals as goal

pub returns-in-Ok : goal.returns-in-Ok
returns-in-Ok g c = λ names.
    let tree = c.in-Ok.checked.tree in
    let prints = subst (λ (text : List ℕ). Prints text (g.O.Sink.taken c.args.out.now, g.O.Sink.faults c.args.out.now) (g.O.Sink.taken c.put_layout.new.out, g.O.Sink.faults c.put_layout.new.out) c.put_layout.result)
    (sym (append-nil (layout_text tree))) c.put_layout.ensures in
    text_serves (layout (type_view c.args.of.now) names) (world_view c.args.world.now) (tree ∷ []) (flat_map layout_text (tree ∷ [])) c.in-Ok.ensures.grammars refl c.put_layout.result c.behind_text.result _ _ _ _ _ c.in-Ok.ensures.silent prints
    c.behind_text.ensures.done c.behind_text.ensures.failed
