use Rattle.std.proofs.Common.{refl, arith, pos}
use Rattle.std.specs.List.{flat_map}
use Rattle.acn_grammar.specs.Images.{clipped}
use Rattle.acn_ints.proofs.MostLemmas.{most_first, most_step}
use Rattle.acn_ints.proofs.most.most_under.Goals as goal

pub loop-range-init : goal.loop-range-init
loop-range-init c = record { value = most_first 1 (flat_map (λ r. flat_map (clipped r) c.args.lines.now) c.args.ranges.now) refl; some = omega arith; few = omega arith }

pub loop-range-preserved : goal.loop-range-preserved
loop-range-preserved c =
    let some = c.loop-range.invariant.some in
    let is = c.most_of_lines-most.ensures.value in
    record {
      value = most_step (λ r. flat_map (clipped r) c.args.lines.now) c.args.ranges.now c.loop-range.range-index (pos 0, pos 0) c.loop-range.most c.most_of_lines-most.result _ (omega arith) is c.loop-range.invariant.value;
      some = omega (arith, some, is);
      few = c.most_of_lines-most.ensures.few;
    }
