use Rattle.std.proofs.Common.{◌-◌, sym, ◌∙◌, ap, arith}
use Rattle.acn_index.specs.Views.{index_view}
use Rattle.acn_index.specs.Sorts.{meant}
use Rattle.acn_index.specs.Lookup.{found_within}
use Rattle.acn_index.proofs.Following.{lost, ends, goes, spent}
use Rattle.acn_index.proofs.lookup.found_within.Goals as goal

pub loop-step-init : goal.loop-step-init
loop-step-init c = ap (λ n. found_within n (index_view c.args.index.now) (meant c.args.sort c.args.name.now) c.args.name.now c.args.k) (omega arith)

pub returns-in-Some : goal.returns-in-Some
returns-in-Some c = sym (ends (index_view c.args.index.now) _ _ _ _ _ (omega arith) (sym (c.in-Some.ensures {u = tt}))) ∙ c.loop-step.invariant

pub returns-in_err-owner-in-None : goal.returns-in_err-owner-in-None
returns-in_err-owner-in-None c =
    rw c.from_residual.ensures (sym (lost (index_view c.args.index.now) _ _ _ _ (sym (c.in-None.ensures {u = tt})) (sym (c.in_err-owner-in-None.ensures {u = tt}))) ∙ c.loop-step.invariant)

pub loop-step-preserved : goal.loop-step-preserved
loop-step-preserved c = sym (goes (index_view c.args.index.now) _ _ _ _ _ _ (omega arith) (sym (c.in-None.ensures {u = tt})) (sym (c.in_ok-owner-in-None.ensures {u = tt}))) ∙ c.loop-step.invariant

pub returns : goal.returns
returns c = sym (spent (index_view c.args.index.now) _ _ (c.args.most - c.loop-step.step) c.loop-step.owner (omega arith)) ∙ c.loop-step.invariant
