use Rattle.std.proofs.Common.{◌≡◌, suc, ◌<◌, ◌-◌, ◌+◌, sym, ◌∙◌, ap, arith}
use Rattle.acn_index.specs.Views.{index_view}
use Rattle.acn_index.specs.Values.{value_within}
use Rattle.acn_index.proofs.ValueSteps.{lost, ends, goes, spent}
use Rattle.acn_index.proofs.values.value_within.Goals as goal

pub loop-step-init : goal.loop-step-init
loop-step-init c = ap (λ n. value_within n (index_view c.args.index.now) c.args.k c.args.name.now) (omega arith)

pub returns-in_err-worth : goal.returns-in_err-worth
returns-in_err-worth c =
    rw c.from_residual.ensures (sym (lost (index_view c.args.index.now) _ _ _ (sym (c.in_err-worth.ensures {u = tt}))) ∙ c.loop-step.invariant)

pub returns-in-None : goal.returns-in-None
returns-in-None c =
    let left : 0 < c.args.most - c.loop-step.step = omega arith in
    sym (ends (index_view c.args.index.now) _ _ _ _ left (sym (c.in_ok-worth.ensures {u = tt})) (sym (c.in-None.ensures {u = tt}))) ∙ c.loop-step.invariant

pub loop-step-preserved : goal.loop-step-preserved
loop-step-preserved c =
    let left : c.args.most - c.loop-step.step ≡ suc (c.args.most - (c.loop-step.step + 1)) = omega arith in
    sym (goes (index_view c.args.index.now) _ _ _ _ _ _ left (sym (c.in_ok-worth.ensures {u = tt})) (sym (c.in-Some.ensures {u = tt}))) ∙ c.loop-step.invariant

pub returns : goal.returns
returns c =
    sym (spent (index_view c.args.index.now) (c.args.most - c.loop-step.step) c.loop-step.owner c.loop-step.name.now (omega arith)) ∙ c.loop-step.invariant
