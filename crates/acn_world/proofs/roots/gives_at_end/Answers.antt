use Rattle.std.proofs.Common.{sym, subst, ap, ◌∙◌, arith}
use Rattle.acn_index.specs.Views.{index_view}
use Rattle.acn_index.specs.Linked.{link_view}
use Rattle.acn_index.specs.Chains.{assigned_link}
use Rattle.acn_world.specs.Parameters.{GivesAtEnd}
use Rattle.acn_world.proofs.roots.gives_at_end.Goals as goal

pub returns-in_ok-last-in-At : goal.returns-in_ok-last-in-At
returns-in_ok-last-in-At c =
    subst (λ e. GivesAtEnd (index_view c.args.index.now) e c.gives_parameters.result) (sym c.in-At.is)
    (record { last = link_view c.in_ok-last-in-At.last; few = omega (arith, c.if-steps-count.false, c.count.ensures); there = ap (assigned_link (index_view c.args.index.now)) (sym c.place_at.ensures) ∙ sym (c.in_ok-last-in-At.ensures {u = tt}); says = c.gives_parameters.ensures })
