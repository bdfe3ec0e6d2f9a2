use Rattle.std.proofs.Common.{◌+◌, sym, ap, ◌∙◌, arith}
use Rattle.acn_grammar.specs.Fails.{presence_count}
use Rattle.acn_grammar.specs.Grammar.{Fields}
use Rattle.acn_plan.specs.Back.{node_at, fields_at}
use Rattle.acn_plan.proofs.Mades.{made_nested}
use Rattle.acn_plan.proofs.Marks.{fields_more}
use Rattle.acn_unpack.proofs.steps.counts_of.Goals as goal

pub loop-this-smaller : goal.loop-this-smaller
loop-this-smaller c = let up = (made_nested c.args.steps.now c.requires.made c.loop-this.this c.at-step.result.now c.at-step.ensures).behind in let a = c.loop-this-test.true in omega (arith, up, a)

pub loop-this-preserved : goal.loop-this-preserved
loop-this-preserved c =
    let l = c.loop-this in
    let up = (made_nested c.args.steps.now c.requires.made c.loop-this.this c.at-step.result.now c.at-step.ensures).behind in
    let from = fields_more c.args.steps.now l.this c.args.end c.at-step.result.now c.at-step.ensures c.loop-this-test.true up in
    let f = l.invariant.few in
    let m = c.with_bit-count.ensures.most in
    let o = l.invariant.room in
    let p = c.with_place-places.ensures in
    record {
      few = omega (arith, up, f, m);
      room = omega (arith, up, o, p);
      count = sym (c.with_bit-count.ensures.value (node_at c.args.steps.now l.this) (fields_at c.args.steps.now c.at-step.result.now.next c.args.end)) ∙ (ap (λ (x : Fields). l.count + presence_count x) (sym from) ∙ l.invariant.count);
    }
