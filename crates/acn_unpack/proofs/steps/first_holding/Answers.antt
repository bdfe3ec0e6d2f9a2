use Rattle.std.proofs.Common.{sym, ap, ◌∙◌, arith}
use Rattle.acn_plan.specs.Back.{node_at, cases_at}
use Rattle.acn_plan.proofs.Mades.{made_nested}
use Rattle.acn_plan.proofs.Marks.{cases_more}
use Rattle.acn_reads.specs.Choices.{first_case}
use Rattle.acn_reads.specs.Present.{all_hold_now}
use Rattle.acn_unpack.specs.Items.{name_in}
use Rattle.acn_unpack.proofs.Cases.{holds_case, fails_case}
use Rattle.acn_unpack.proofs.steps.first_holding.Goals as goal

pub returns-then-all_hold : goal.returns-then-all_hold
returns-then-all_hold c =
    let l = c.loop-this in
    let s = c.at-step.result.now in
    let up = (made_nested c.args.steps.now c.requires.made l.this c.at-step.result.now c.at-step.ensures).behind in
    let next = cases_at c.args.steps.now c.at-step.result.now.next c.args.end in
    let from = cases_more c.args.steps.now l.this c.args.end c.at-step.result.now c.at-step.ensures c.loop-this-test.true up ∙ c.tests_of.ensures (node_at c.args.steps.now l.this) next in
    sym (holds_case (λ name tests. all_hold_now c.args.slots.now tests) l.i (name_in c.at-step.result.now.place) (node_at c.args.steps.now l.this) c.tests_of.result.now next (sym c.all_hold.ensures ∙ c.if-all_hold.true))
    ∙ (ap (first_case (λ name tests. all_hold_now c.args.slots.now tests) l.i) (sym from) ∙ l.invariant.left)

pub loop-this-smaller : goal.loop-this-smaller
loop-this-smaller c = let up = (made_nested c.args.steps.now c.requires.made c.loop-this.this c.at-step.result.now c.at-step.ensures).behind in let a = c.loop-this-test.true in omega (arith, up, a)

pub loop-this-preserved : goal.loop-this-preserved
loop-this-preserved c =
    let l = c.loop-this in
    let up = (made_nested c.args.steps.now c.requires.made l.this c.at-step.result.now c.at-step.ensures).behind in
    let next = cases_at c.args.steps.now c.at-step.result.now.next c.args.end in
    let from = cases_more c.args.steps.now l.this c.args.end c.at-step.result.now c.at-step.ensures c.loop-this-test.true up ∙ c.tests_of.ensures (node_at c.args.steps.now l.this) next in
    let f = l.invariant.few in
    record {
      few = omega (arith, up, f);
      left = sym (fails_case (λ name tests. all_hold_now c.args.slots.now tests) l.i (name_in c.at-step.result.now.place) (node_at c.args.steps.now l.this) c.tests_of.result.now next (sym c.all_hold.ensures ∙ c.if-all_hold.false))
          ∙ (ap (first_case (λ name tests. all_hold_now c.args.slots.now tests) l.i) (sym from) ∙ l.invariant.left);
    }
