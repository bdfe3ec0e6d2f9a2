use Rattle.std.proofs.Common.{◌∙◌, ◌+◌, ap, sym, arith, ℕ, pos, get_or}
use Rattle.std.specs.Prelude.{◌-ℤ◌}
use Rattle.acn_num.specs.Ranges.{bottom}
use Rattle.acn_text.proofs.Places.{at_range, places_start, places_few, places_over, distance_few}
use Rattle.acn_text.proofs.alphabet.place_in_ranges.Goals as goal

pub loop-range-init : goal.loop-range-init
loop-range-init c = places_start (bottom -ℤ pos 1) c.args.ranges.now c.args.x.now c.requires.ranges c.requires.small c.requires.permitted

pub distance-requires-clause-order : goal.distance-requires-clause-order
distance-requires-clause-order c = ((at_range c.args.ranges.now c.args.x.now c.loop-range.range-index c.loop-range.below (pos 0, pos 0) c.loop-range-test.true c.loop-range.invariant).here (sym c.is_up_to.ensures ∙ c.if-is_up_to.true)).0

pub distance-requires-clause-low : goal.distance-requires-clause-low
distance-requires-clause-low c = (at_range c.args.ranges.now c.args.x.now c.loop-range.range-index c.loop-range.below (pos 0, pos 0) c.loop-range-test.true c.loop-range.invariant).low

pub distance-requires-clause-high : goal.distance-requires-clause-high
distance-requires-clause-high c = ((at_range c.args.ranges.now c.args.x.now c.loop-range.range-index c.loop-range.below (pos 0, pos 0) c.loop-range-test.true c.loop-range.invariant).here (sym c.is_up_to.ensures ∙ c.if-is_up_to.true)).1

pub overflow_add-result : goal.overflow_add-result
overflow_add-result c =
    let few = places_few (bottom -ℤ pos 1) c.args.ranges.now c.args.x.now c.loop-range.range-index c.loop-range.below c.requires.ranges c.requires.small c.requires.permitted c.loop-range.invariant in
    let a = at_range c.args.ranges.now c.args.x.now c.loop-range.range-index c.loop-range.below (pos 0, pos 0) c.loop-range-test.true c.loop-range.invariant in
    let d = distance_few (get_or c.args.ranges.now c.loop-range.range-index (pos 0, pos 0)).0 c.args.x.now a.low (a.here (sym c.is_up_to.ensures ∙ c.if-is_up_to.true)).1 in
    let e = c.distance.ensures in
    record { fits = omega (arith, few, d, e) }

pub overflow_add-below-in-loop-range : goal.overflow_add-below-in-loop-range
overflow_add-below-in-loop-range c =
    let few = places_few (bottom -ℤ pos 1) c.args.ranges.now c.args.x.now c.loop-range.range-index c.loop-range.below c.requires.ranges c.requires.small c.requires.permitted c.loop-range.invariant in
    let a = at_range c.args.ranges.now c.args.x.now c.loop-range.range-index c.loop-range.below (pos 0, pos 0) c.loop-range-test.true c.loop-range.invariant in
    let d = distance_few (get_or c.args.ranges.now c.loop-range.range-index (pos 0, pos 0)).0 (get_or c.args.ranges.now c.loop-range.range-index (pos 0, pos 0)).1 a.low a.high in
    let e = c.distance-in-loop-range.ensures in
    record { fits = omega (arith, few, d, e) }

pub returns-then-is_up_to : goal.returns-then-is_up_to
returns-then-is_up_to c =
    let a = at_range c.args.ranges.now c.args.x.now c.loop-range.range-index c.loop-range.below (pos 0, pos 0) c.loop-range-test.true c.loop-range.invariant in
    ap (λ (k : ℕ). c.loop-range.below + k) c.distance.ensures ∙ (a.here (sym c.is_up_to.ensures ∙ c.if-is_up_to.true)).2

pub loop-range-preserved : goal.loop-range-preserved
loop-range-preserved c =
    let a = at_range c.args.ranges.now c.args.x.now c.loop-range.range-index c.loop-range.below (pos 0, pos 0) c.loop-range-test.true c.loop-range.invariant in
    let e = c.distance-in-loop-range.ensures in
    rw e (a.later (sym c.is_up_to.ensures ∙ c.if-is_up_to.false))

pub unreachable-requires : goal.unreachable-requires
unreachable-requires c = places_over c.args.ranges.now c.args.x.now c.loop-range.range-index c.loop-range.below c.loop-range-test.false c.loop-range.invariant
