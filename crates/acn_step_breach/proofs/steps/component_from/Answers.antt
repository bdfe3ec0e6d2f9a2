use Rattle.std.proofs.Common.{sym, ◌∙◌, arith}
use Rattle.acn_plan.proofs.Mades.{made_nested}
use Rattle.acn_step_breach.proofs.FieldTurns.{step_takes, step_passes, step_room}
use Rattle.acn_step_breach.proofs.steps.component_from.Goals as goal

pub returns-then-is_component-clause-some : goal.returns-then-is_component-clause-some
returns-then-is_component-clause-some c =
    let l = c.loop-this in
    let up = (made_nested c.args.steps.now c.requires.made l.this c.step_at-step.result.now c.step_at-step.ensures).behind in
    let is = sym c.is_component.ensures ∙ c.if-is_component.true in
    record {
      from = l.invariant.from;
      inside = c.loop-this-test.true;
      behind = up;
      few = l.invariant.few;
      takes = λ path d ps. l.invariant.same path _ ∙ step_takes c.args.steps.now l.this c.args.end c.step_at-step.result.now c.step_at-step.ensures c.loop-this-test.true up path l.number d ps is;
      room = λ depth h. step_room c.args.steps.now l.this c.args.end c.step_at-step.result.now c.step_at-step.ensures c.loop-this-test.true up depth (l.invariant.room depth h);
    }

pub loop-this-smaller : goal.loop-this-smaller
loop-this-smaller c = let up = (made_nested c.args.steps.now c.requires.made c.loop-this.this c.step_at-step.result.now c.step_at-step.ensures).behind in let a = c.loop-this-test.true in omega (arith, up, a)

pub loop-this-preserved : goal.loop-this-preserved
loop-this-preserved c =
    let l = c.loop-this in
    let up = (made_nested c.args.steps.now c.requires.made l.this c.step_at-step.result.now c.step_at-step.ensures).behind in
    let is = sym c.is_component.ensures ∙ c.if-is_component.false in
    let e = l.invariant.from in
    let f = l.invariant.few in
    record {
      from = omega (arith, up, e);
      few = omega (arith, up, f);
      same = λ path ps. l.invariant.same path ps ∙ step_passes c.args.steps.now l.this c.args.end c.step_at-step.result.now c.step_at-step.ensures c.loop-this-test.true up path l.number ps is;
      room = λ depth h. (step_room c.args.steps.now l.this c.args.end c.step_at-step.result.now c.step_at-step.ensures c.loop-this-test.true up depth (l.invariant.room depth h)).1;
    }
