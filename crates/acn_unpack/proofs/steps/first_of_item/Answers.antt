use Rattle.std.proofs.Common.{sym, ap, ◌∙◌, arith}
use Rattle.acn_plan.specs.Back.{case_items, item_at}
use Rattle.acn_plan.proofs.Mades.{made_nested}
use Rattle.acn_plan.proofs.Marks.{items_more}
use Rattle.acn_unpack.specs.Items.{first_item, is_item}
use Rattle.acn_unpack.proofs.Cases.{holds_item, fails_item}
use Rattle.acn_unpack.proofs.steps.first_of_item.Goals as goal

pub returns-then-is_of : goal.returns-then-is_of
returns-then-is_of c =
    let l = c.loop-this in
    let up = (made_nested c.args.steps.now c.requires.made l.this c.at-step.result.now c.at-step.ensures).behind in
    let from = items_more c.args.steps.now l.this c.args.end c.at-step.result.now c.at-step.ensures c.loop-this-test.true up in
    sym (holds_item c.args.x.now l.i (item_at c.at-step.result.now.place) (case_items c.args.steps.now c.at-step.result.now.next c.args.end) (ap (is_item c.args.x.now) (sym c.item_of.ensures) ∙ (sym c.is_of.ensures ∙ c.if-is_of.true)))
    ∙ (ap (first_item c.args.x.now l.i) (sym from) ∙ l.invariant.left)

pub loop-this-smaller : goal.loop-this-smaller
loop-this-smaller c = let up = (made_nested c.args.steps.now c.requires.made c.loop-this.this c.at-step.result.now c.at-step.ensures).behind in let a = c.loop-this-test.true in omega (arith, up, a)

pub loop-this-preserved : goal.loop-this-preserved
loop-this-preserved c =
    let l = c.loop-this in
    let up = (made_nested c.args.steps.now c.requires.made l.this c.at-step.result.now c.at-step.ensures).behind in
    let from = items_more c.args.steps.now l.this c.args.end c.at-step.result.now c.at-step.ensures c.loop-this-test.true up in
    let f = l.invariant.few in
    record {
      few = omega (arith, up, f);
      left = sym (fails_item c.args.x.now l.i (item_at c.at-step.result.now.place) (case_items c.args.steps.now c.at-step.result.now.next c.args.end) (ap (is_item c.args.x.now) (sym c.item_of.ensures) ∙ (sym c.is_of.ensures ∙ c.if-is_of.false)))
          ∙ (ap (first_item c.args.x.now l.i) (sym from) ∙ l.invariant.left);
    }
