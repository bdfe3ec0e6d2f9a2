use Rattle.std.proofs.Common.{rules, FitsSigned, ℤ, pos, ap, ◌∙◌}
use Rattle.std.proofs.lemmas.Int.{to_z-of_z}
use Rattle.std.specs.Int.{w128}
use Rattle.std.specs.Prelude.{◌+ℤ◌, ◌-ℤ◌}
use Rattle.acn_extreme_numbers.specs.Tries.{lesser}
use Rattle.acn_extreme_numbers.proofs.Stepping.{least_turn, numbers_turn}
use Rattle.acn_extreme_numbers.proofs.numbers.with_steps.Goals as goal

pub loop-step-preserved : goal.loop-step-preserved
loop-step-preserved c =
    let l = c.loop-step in
    let fits : FitsSigned w128 c.shifted-x.result = search rules in
    let same = to_z-of_z w128 c.shifted-x.result fits in
    record {
      permitted = c.lesser-so_far.ensures.permitted;
      numbers = (numbers_turn c.args.steps.now l.step-index (pos 0) c.loop-step-test.true l.invariant.numbers).1;
      number = least_turn c.args.leaf.now (λ (y : ℤ). c.args.key.now +ℤ (y -ℤ c.args.image.now)) c.args.steps.now l.step-index (pos 0) l.so_far.number _ _ c.loop-step-test.true
          (c.lesser-so_far.ensures.number ∙ ap (λ (z : ℤ). lesser c.args.leaf.now z l.so_far.number) (same ∙ c.shifted-x.ensures)) l.invariant.number;
    }
