use Rattle.std.proofs.Common.{sym, subst, ◌∙◌, drop, pos, ◌+◌, get_or}
use Rattle.std.specs.Prelude.{◌+ℤ◌, ◌-ℤ◌}
use Rattle.acn_num.specs.Ranges.{Ranges, AreRanges, bottom, top}
use Rattle.acn_num.specs.Joining.{JoinsBefore}
use Rattle.acn_num.proofs.Joining.{both_at, both_begin, both_can, both_turn, both_end, both_over}
use Rattle.acn_num.proofs.Order.{same_set}
use Rattle.acn_num.proofs.Unions.{union_ranges, union_has}
use Rattle.acn_num.proofs.range_set.RangeSet.union.Goals as goal

pub loop-range-init : goal.loop-range-init
loop-range-init c =
    let same = c.as_slice-rest.ensures.value ∙ c.other.view_is in
    rw (c.new-ranges.ensures.items, same) (both_begin c.args.self.now c.args.other.now (subst (λ (z : Ranges). AreRanges z) c.self.view_is c.self.invariant) (subst (λ (z : Ranges). AreRanges z) c.other.view_is c.other.invariant))

pub join_range-requires : goal.join_range-requires
join_range-requires c =
    let same = c.deref-range-items.ensures.value ∙ c.self.view_is in
    let items = c.deref-range-items.result.now in
    both_can c.args.self.now c.args.other.now c.loop-range.ranges.items c.join_before.new.ranges.items (drop (c.loop-range.range-index + 1) c.args.self.now) c.loop-range.rest.now c.in_ok-rest.rest.now (get_or items c.loop-range.range-index (pos 0, pos 0))
    (both_at c.args.self.now c.args.other.now c.loop-range.ranges.items c.loop-range.rest.now items c.loop-range.range-index same c.loop-range-test.true c.loop-range.invariant) (c.in_ok-rest.ensures {u = tt})

pub loop-range-preserved : goal.loop-range-preserved
loop-range-preserved c =
    let same = c.deref-range-items.ensures.value ∙ c.self.view_is in
    let items = c.deref-range-items.result.now in
    both_turn c.args.self.now c.args.other.now c.loop-range.ranges.items c.join_before.new.ranges.items c.join_range.new.ranges.items (drop (c.loop-range.range-index + 1) c.args.self.now) c.loop-range.rest.now c.in_ok-rest.rest.now
    (get_or items c.loop-range.range-index (pos 0, pos 0)) (both_at c.args.self.now c.args.other.now c.loop-range.ranges.items c.loop-range.rest.now items c.loop-range.range-index same c.loop-range-test.true c.loop-range.invariant)
    (c.in_ok-rest.ensures {u = tt}) (c.in_ok-join_range.ensures {u = tt})

pub returns-clause-numbers : goal.returns-clause-numbers
returns-clause-numbers c =
    let same = c.deref-range-items.ensures.value ∙ c.self.view_is in
    both_end c.args.self.now c.args.other.now c.loop-range.ranges.items c.join_before-2.new.ranges.items c.loop-range.rest.now c.in_ok-join_before.field-0.now
    (both_over c.args.self.now c.args.other.now c.loop-range.ranges.items c.loop-range.rest.now c.deref-range-items.result.now c.loop-range.range-index same c.loop-range-test.false c.loop-range.invariant) (c.in_ok-join_before.ensures {u = tt})

pub returns-clause-ranges : goal.returns-clause-ranges
returns-clause-ranges c =
    let same = c.deref-range-items.ensures.value ∙ c.self.view_is in
    let h : AreRanges c.args.self.now = subst (λ (z : Ranges). AreRanges z) c.self.view_is c.self.invariant in
    let k : AreRanges c.args.other.now = subst (λ (z : Ranges). AreRanges z) c.other.view_is c.other.invariant in
    let before : JoinsBefore (top +ℤ pos 1) c.loop-range.ranges.items c.loop-range.rest.now c.join_before-2.new.ranges.items c.in_ok-join_before.field-0.now = c.in_ok-join_before.ensures {u = tt} in
    same_set (bottom -ℤ pos 1) c.join_before-2.new.ranges.items _ before.are (union_ranges c.args.self.now c.args.other.now h k)
    (λ x. both_end c.args.self.now c.args.other.now c.loop-range.ranges.items c.join_before-2.new.ranges.items c.loop-range.rest.now c.in_ok-join_before.field-0.now
    (both_over c.args.self.now c.args.other.now c.loop-range.ranges.items c.loop-range.rest.now c.deref-range-items.result.now c.loop-range.range-index same c.loop-range-test.false c.loop-range.invariant) before x ∙ sym (union_has c.args.self.now c.args.other.now x h k))
