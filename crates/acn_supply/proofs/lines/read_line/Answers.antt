use Rattle.std.proofs.Common.{◌∙◌, arith, refl, subst, sym, List, ℕ}
use Rattle.acn_supply.proofs.Pieces.{SoFar, begins, steps_on, grows_on, stopped}
use Rattle.acn_supply.proofs.lines.read_line.Goals as goal

pub loop-no_line-init : goal.loop-no_line-init
loop-no_line-init g c = record {
  so_far = subst (λ (t : List ℕ). SoFar c.args.supply.now c.args.supply.now (g.S.Source.rest c.args.input.now) (g.S.Source.rest c.args.input.now) t) (sym c.clear.ensures.items) (begins c.args.supply.now _);
  count = omega arith;
  uncounted = refl;
}

pub returns-in-Err-clause-read : goal.returns-in-Err-clause-read
returns-in-Err-clause-read g c =
    stopped c.args.supply.now c.loop-no_line.supply c.step.new.supply _ _ c.loop-no_line.line.items c.step.new.line.items c.in-Err.no_line c.loop-no_line.invariant.so_far c.in-Err.ensures.moved c.in-Err.ensures.left c.step.ensures.near

pub loop-no_line-preserved : goal.loop-no_line-preserved
loop-no_line-preserved g c =
    let mid = steps_on c.args.supply.now c.loop-no_line.supply c.step.new.supply _ _ c.loop-no_line.line.items c.step.new.line.items c.loop-no_line.invariant.so_far (rw c.in-Ok-false.field-0-test at c.in-Ok-false.ensures.moved) c.in-Ok-false.ensures.left in
    record {
      so_far = grows_on c.args.supply.now c.step.new.supply c.more.new.self _ _ _ c.step.new.line.items mid (rw c.in-Ok-Bytes.field-0-is at c.in-Ok-Bytes.ensures.read);
      count = omega (arith, c.loop-no_line.invariant.count, c.in-Ok-Bytes.ensures.count);
      uncounted = c.in-Ok-Bytes.ensures.uncounted ∙ c.loop-no_line.invariant.uncounted;
    }
