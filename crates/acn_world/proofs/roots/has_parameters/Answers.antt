use Rattle.std.proofs.Common.{◌≡◌, suc, ◌-◌, ◌+◌, sym, ◌∙◌, ap, arith}
use Rattle.acn_index.specs.Views.{index_view}
use Rattle.acn_index.specs.Linked.{link_view}
use Rattle.acn_index.specs.Chains.{has_parameters, links, links_within}
use Rattle.acn_world.proofs.ParameterSteps.{any_gives, gives_here, ends, goes, spent}
use Rattle.acn_world.proofs.roots.has_parameters.Goals as goal

pub loop-step-init : goal.loop-step-init
unfolding has_parameters links
loop-step-init c = ap (λ n. any_gives (index_view c.args.index.now) (links_within n (index_view c.args.index.now) (link_view c.args.first))) (omega (arith, c.count-step-end.ensures))

pub returns-then-gives_parameters : goal.returns-then-gives_parameters
returns-then-gives_parameters c =
    sym (gives_here (index_view c.args.index.now) (c.count-step-end.result + 1 - c.loop-step.step) (link_view c.loop-step.link) (omega arith) (sym (c.if-gives_parameters.ensures {u = tt}))) ∙ c.loop-step.invariant

pub returns-in-None : goal.returns-in-None
returns-in-None c =
    sym (ends (index_view c.args.index.now) (c.count-step-end.result + 1 - c.loop-step.step) (link_view c.loop-step.link) (sym (c.if-gives_parameters.ensures {u = tt})) (sym (c.in-None.ensures {u = tt}))) ∙ c.loop-step.invariant

pub loop-step-preserved : goal.loop-step-preserved
loop-step-preserved c =
    let left : c.count-step-end.result + 1 - c.loop-step.step ≡ suc (c.count-step-end.result + 1 - (c.loop-step.step + 1)) = omega arith in
    sym (goes (index_view c.args.index.now) _ _ _ _ left (sym (c.if-gives_parameters.ensures {u = tt})) (sym (c.in-Some.ensures {u = tt}))) ∙ c.loop-step.invariant

pub returns : goal.returns
returns c = sym (spent (index_view c.args.index.now) (c.count-step-end.result + 1 - c.loop-step.step) (link_view c.loop-step.link) (omega arith)) ∙ c.loop-step.invariant
