use Rattle.std.proofs.Common.{◌≡◌, suc, ◌-◌, sym, ap, ◌∙◌, arith}
use Rattle.acn_grammar.specs.Grammar.{Fields, Alternatives}
use Rattle.acn_grammar.specs.Paths.{field_at, alternative_at}
use Rattle.acn_plan.specs.Back.{node_at, fields_at, cases_at}
use Rattle.acn_plan.proofs.Mades.{made_nested}
use Rattle.acn_plan.proofs.Marks.{fields_more, cases_more}
use Rattle.acn_step_breach.proofs.Levels.{step_there}
use Rattle.acn_step_breach.proofs.Inners.{field_first, field_later, case_first, case_later}
use Rattle.acn_step_breach.proofs.steps.inner_at.Goals as goal

pub returns-then-left-eq0-clause-field : goal.returns-then-left-eq0-clause-field
returns-then-left-eq0-clause-field c =
    let l = c.loop-this in
    let test = c.loop-this-test.true in
    let w = c.requires.within in
    let s = step_there c.args.steps.now l.this (omega (arith, test, w)) in
    let up = (made_nested c.args.steps.now c.requires.made l.this s.0 s.1).behind in
    let from = fields_more c.args.steps.now l.this c.args.end s.0 s.1 test up in
    let e : l.left ≡ 0 = c.if-left-eq0.true in
    sym (field_first s.0.place (node_at c.args.steps.now l.this) (fields_at c.args.steps.now s.0.next c.args.end)) ∙ (ap (λ (x : Fields). field_at x 0) (sym from) ∙ (ap (field_at (fields_at c.args.steps.now l.this c.args.end)) (sym e) ∙ l.invariant.field))

pub returns-then-left-eq0-clause-case : goal.returns-then-left-eq0-clause-case
returns-then-left-eq0-clause-case c =
    let l = c.loop-this in
    let test = c.loop-this-test.true in
    let w = c.requires.within in
    let s = step_there c.args.steps.now l.this (omega (arith, test, w)) in
    let up = (made_nested c.args.steps.now c.requires.made l.this s.0 s.1).behind in
    let from = cases_more c.args.steps.now l.this c.args.end s.0 s.1 test up in
    let e : l.left ≡ 0 = c.if-left-eq0.true in
    sym (case_first s.0.place (node_at c.args.steps.now l.this) (cases_at c.args.steps.now s.0.next c.args.end)) ∙ (ap (λ (x : Alternatives). alternative_at x 0) (sym from) ∙ (ap (alternative_at (cases_at c.args.steps.now l.this c.args.end)) (sym e) ∙ l.invariant.case))

pub loop-this-smaller : goal.loop-this-smaller
loop-this-smaller c = let up = (made_nested c.args.steps.now c.requires.made c.loop-this.this c.step_at.result.now c.step_at.ensures).behind in let a = c.loop-this-test.true in omega (arith, up, a)

pub loop-this-preserved : goal.loop-this-preserved
loop-this-preserved c =
    let l = c.loop-this in
    let up = (made_nested c.args.steps.now c.requires.made l.this c.step_at.result.now c.step_at.ensures).behind in
    let fields = fields_more c.args.steps.now l.this c.args.end c.step_at.result.now c.step_at.ensures c.loop-this-test.true up in
    let cases = cases_more c.args.steps.now l.this c.args.end c.step_at.result.now c.step_at.ensures c.loop-this-test.true up in
    let some = c.if-left-eq0.false in
    let e : l.left ≡ suc (l.left - 1) = omega (arith, some) in
    let f = l.invariant.from in
    record {
      from = omega (arith, up, f);
      field = sym (field_later c.step_at.result.now.place (node_at c.args.steps.now l.this) (fields_at c.args.steps.now c.step_at.result.now.next c.args.end) (l.left - 1)) ∙ (ap (λ (x : Fields). field_at x (suc (l.left - 1))) (sym fields) ∙ (ap (field_at (fields_at c.args.steps.now l.this c.args.end)) (sym e) ∙ l.invariant.field));
      case = sym (case_later c.step_at.result.now.place (node_at c.args.steps.now l.this) (cases_at c.args.steps.now c.step_at.result.now.next c.args.end) (l.left - 1)) ∙ (ap (λ (x : Alternatives). alternative_at x (suc (l.left - 1))) (sym cases) ∙ (ap (alternative_at (cases_at c.args.steps.now l.this c.args.end)) (sym e) ∙ l.invariant.case));
    }
