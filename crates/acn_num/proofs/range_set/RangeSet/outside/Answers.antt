use Rattle.std.proofs.Common.{refl, sym, subst, ◌∙◌, pos, arith, get_or}
use Rattle.std.specs.Prelude.{◌-ℤ◌}
use Rattle.std.proofs.lemmas.Int.{ints, to_z-of_z}
use Rattle.std.specs.Int.{w128}
use Rattle.acn_num.specs.Ranges.{Ranges, AreRanges, IsRange, outside, bottom}
use Rattle.acn_num.proofs.Turns.{range_at, fits_high, outside_turn, above_turn, outside_done}
use Rattle.acn_num.proofs.Order.{outside_above}
use Rattle.acn_num.proofs.range_set.RangeSet.outside.Goals as goal

pub loop-r-init : goal.loop-r-init
unfolding outside
loop-r-init c =
    record { so_far = rw c.new-ranges.ensures.items refl; above = (subst (λ (z : Ranges). AreRanges z) c.self.view_is c.self.invariant); low = omega (arith, ints); high = omega (arith, ints) }

pub loop-r-preserved : goal.loop-r-preserved
loop-r-preserved c =
    let same = c.deref-r-items.ensures.value ∙ c.self.view_is in
    let range : IsRange (get_or c.deref-r-items.result.now c.loop-r.r-index (pos 0, pos 0)) = range_at c.deref-r-items.result.now c.args.self.now c.loop-r.r-index (pos 0, pos 0) (c.deref-r-items.ensures.value ∙ c.self.view_is) (subst (λ (z : Ranges). AreRanges z) c.self.view_is c.self.invariant) c.loop-r-test.true in
    let fit = fits_high (get_or c.deref-r-items.result.now c.loop-r.r-index (pos 0, pos 0)) range in
    rw (to_z-of_z w128 (get_or c.deref-r-items.result.now c.loop-r.r-index (pos 0, pos 0)).1 fit)
    (record {
      so_far = outside_turn c.deref-r-items.result.now c.args.self.now c.loop-r.ranges.items c.add_gap.new.ranges.items _ c.loop-r.r-index (c.deref-r-items.ensures.value ∙ c.self.view_is) c.loop-r-test.true (c.in_ok-add_gap.ensures {u = tt}) c.loop-r.invariant.so_far;
      above = above_turn c.deref-r-items.result.now c.args.self.now _ c.loop-r.r-index (c.deref-r-items.ensures.value ∙ c.self.view_is) c.loop-r-test.true c.loop-r.invariant.above;
      low = omega (arith, ints, range.low, range.order);
      high = range.high;
    })

pub invariant_of-result : goal.invariant_of-result
unfolding outside
invariant_of-result c =
    let out = outside_done c.deref-r-items.result.now c.args.self.now c.loop-r.ranges.items c.add_gap-2.new.ranges.items _ c.loop-r.r-index (c.deref-r-items.ensures.value ∙ c.self.view_is) c.loop-r-test.false (c.in_ok-add_gap-2.ensures {u = tt}) c.loop-r.invariant.so_far in
    subst (λ (z : Ranges). AreRanges z) (sym out) (outside_above (bottom -ℤ pos 1) c.args.self.now (subst (λ (z : Ranges). AreRanges z) c.self.view_is c.self.invariant))

pub returns-clause-ranges : goal.returns-clause-ranges
returns-clause-ranges c =
    outside_done c.deref-r-items.result.now c.args.self.now c.loop-r.ranges.items c.add_gap-2.new.ranges.items _ c.loop-r.r-index (c.deref-r-items.ensures.value ∙ c.self.view_is) c.loop-r-test.false (c.in_ok-add_gap-2.ensures {u = tt}) c.loop-r.invariant.so_far
