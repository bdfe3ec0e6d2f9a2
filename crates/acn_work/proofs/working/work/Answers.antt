use Rattle.std.proofs.Common.{◌≡◌, ◌-◌, ◌+◌, List, sym, subst, arith}
use Rattle.acn_grammar.specs.View.{grammar_of}
use Rattle.acn_plan.specs.Back.{root_of}
use Rattle.acn_plan.specs.declared.step.Step.{Step}
use Rattle.acn_work.specs.Summaries.{values_made}
use Rattle.acn_work.specs.declared.summary.Summary.{Summary}
use Rattle.acn_work.proofs.Tallies.{Adds, grows, turn, end}
use Rattle.acn_work.proofs.working.work.Goals as goal

pub loop-preserved : goal.loop-preserved
loop-preserved g c =
    let root = grammar_of c.args.checked.now.tree.root in
    let l = c.loop in
    let came = c.in_ok-outcome in
    let next = c.counted-summary in
    let more = grows l.summary next.result came.outcome next.ensures came.ensures.short in
    record {
      made = omega (arith, more.made, l.invariant.made);
      packed = omega (arith, more.packed, l.invariant.packed);
      refused = omega (arith, more.refused, l.invariant.refused);
      bits = omega (arith, more.bits, l.invariant.bits);
      adds = subst (λ (s : Summary). Adds root (values_made root c.args.start c.args.count) s (values_made root c.next_outcome.new.draw (c.args.count - (l.counter + 1)))) (sym next.ensures)
          (turn root (values_made root c.args.start c.args.count) l.summary came.outcome c.args.count l.counter l.draw c.next_outcome.new.draw c.loop-test.true came.ensures.came came.ensures.draw l.invariant.adds);
    }

pub returns : goal.returns
returns g c =
    let root = grammar_of c.args.checked.now.tree.root in
    let l = c.loop in
    record {
      made = omega (arith, l.invariant.made, l.auto.counter-end, c.loop-test.false);
      tallied = end root (values_made root c.args.start c.args.count) l.summary c.args.count l.counter l.draw c.loop-test.false l.invariant.adds;
    }

pub next_outcome-requires-clause-fits : goal.next_outcome-requires-clause-fits
next_outcome-requires-clause-fits g c = rw c.bounds-bounds.ensures.exact at c.bounds-bounds.ensures.short

pub next_outcome-requires-clause-planned : goal.next_outcome-requires-clause-planned
next_outcome-requires-clause-planned g c =
    let root = grammar_of c.args.checked.now.tree.root in
    subst (λ (steps : List Step). root_of steps ≡ root) c.requires.planned (c.steps_say_their_root.ensures root)
