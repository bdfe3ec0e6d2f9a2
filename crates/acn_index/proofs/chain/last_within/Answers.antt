use Rattle.std.proofs.Common.{◌≡◌, suc, ◌+◌, ◌-◌, sym, ◌∙◌, arith}
use Rattle.acn_index.specs.Views.{index_view}
use Rattle.acn_index.specs.Linked.{link_view}
use Rattle.acn_index.proofs.ChainSteps.{last_ends, last_goes, last_spent}
use Rattle.acn_index.proofs.chain.last_within.Goals as goal

pub returns-in-None : goal.returns-in-None
returns-in-None c = sym (last_ends (index_view c.args.index.now) (c.args.most - c.loop-step.step) _ (sym (c.in-None.ensures {u = tt}))) ∙ c.loop-step.invariant

pub loop-step-preserved : goal.loop-step-preserved
loop-step-preserved c =
    let left : c.args.most - c.loop-step.step ≡ suc (c.args.most - (c.loop-step.step + 1)) = omega arith in
    sym (last_goes (index_view c.args.index.now) _ _ _ _ left (sym (c.in-Some.ensures {u = tt}))) ∙ c.loop-step.invariant

pub returns : goal.returns
returns c = sym (last_spent (index_view c.args.index.now) (c.args.most - c.loop-step.step) (link_view c.loop-step.link) (omega arith)) ∙ c.loop-step.invariant
