use Rattle.std.proofs.Common.{◌≡◌, true, sym, ◌∙◌}
use Rattle.acn_graph.proofs.Ways.{no_way_back}
use Rattle.acn_graph.proofs.ring.round_at.Goals as goal

pub returns-then-leads_down : goal.returns-then-leads_down
returns-then-leads_down c =
    no_way_back c.args.numbers.now c.args.graph.now c.args.node (sym c.requires.fall ∙ c.if-not-fall.false) (sym c.leads_down.ensures ∙ c.if-leads_down.true)
