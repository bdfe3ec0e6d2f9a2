use Rattle.std.proofs.Common.{ℕ, suc, ◌+◌, ◌≡◌, sym, subst, arith, ◌∙◌}
use Rattle.acn_ends.specs.declared.spot.Spot.{Spot}
use Rattle.acn_ends.proofs.Leading.{Leads, stays}
use Rattle.acn_ends.proofs.Ways.{longer, round_endless, same_spot}
use Rattle.acn_ends.proofs.walk.comes_back.Goals as goal

pub loop-step-init : goal.loop-step-init
loop-step-init g c = stays

pub returns-then-eq : goal.returns-then-eq
returns-then-eq g c = λ _.
    let next = g.S.Steps.onward c.args.steps.now in
    let back = same_spot c.in-Some.next c.args.from (sym c.eq.ensures ∙ c.if-eq.true) in
    let way = longer next c.loop-step.invariant (sym (c.in-Some.ensures {u = tt})) in
    round_endless next c.loop-step.step c.args.from (subst (λ (z : Spot). Leads next (suc c.loop-step.step) c.args.from z) back way)

pub loop-step-preserved : goal.loop-step-preserved
loop-step-preserved g c =
    let next = g.S.Steps.onward c.args.steps.now in
    let one_more : suc c.loop-step.step ≡ c.loop-step.step + 1 = omega arith in
    subst (λ (n : ℕ). Leads next n c.args.from c.in-Some.next) one_more (longer next c.loop-step.invariant (sym (c.in-Some.ensures {u = tt})))
