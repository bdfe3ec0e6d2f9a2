use Rattle.std.proofs.Common.{◌≡◌, ap, sym, subst, ◌∙◌, pos, get_or}
use Rattle.std.specs.Prelude.{◌-ℤ◌, ◌&&◌}
use Rattle.acn_num.specs.Ranges.{Ranges, has, AreRanges, bottom, meet}
use Rattle.acn_num.proofs.Members.{has_meet}
use Rattle.acn_num.proofs.Meeting.{meet_turn, meet_done, reaching_above}
use Rattle.acn_num.proofs.Order.{meet_above}
use Rattle.acn_num.proofs.range_set.RangeSet.meet.Goals as goal

pub loop-r-init : goal.loop-r-init
loop-r-init c =
    let same = c.as_slice-rest.ensures.value ∙ c.other.view_is in
    rw c.new-ranges.ensures.items (record {
      so_far = ap (λ (z : Ranges). meet c.args.self.now z) same;
      above = subst (λ (z : Ranges). AreRanges z) (sym same) (subst (λ (z : Ranges). AreRanges z) c.other.view_is c.other.invariant);
    })

pub loop-r-preserved : goal.loop-r-preserved
loop-r-preserved c =
    let items = c.deref-r-items.result.now in
    let same = c.deref-r-items.ensures.value ∙ c.self.view_is in
    let i = c.loop-r.r-index in
    record {
      so_far = meet_turn items c.args.self.now c.loop-r.rest.now c.reaching-rest.result.now c.loop-r.ranges.items c.clip_into.new.ranges.items _ i same
          (subst (λ (z : Ranges). AreRanges z) c.self.view_is c.self.invariant) c.loop-r.invariant.above c.loop-r-test.true c.reaching-rest.ensures (c.in_ok-clip_into.ensures {u = tt}) c.loop-r.invariant.so_far;
      above = subst (λ (z : Ranges). AreRanges z) (sym c.reaching-rest.ensures) (reaching_above (get_or items i (pos 0, pos 0)).0 (bottom -ℤ pos 1) c.loop-r.rest.now c.loop-r.invariant.above);
    }

pub invariant_of-result : goal.invariant_of-result
invariant_of-result c = let out = meet_done _ c.args.self.now c.loop-r.rest.now c.loop-r.ranges.items _ c.loop-r.r-index (c.deref-r-items.ensures.value ∙ c.self.view_is) c.loop-r-test.false c.loop-r.invariant.so_far in subst (λ (z : Ranges). AreRanges z) (sym out) (meet_above (bottom -ℤ pos 1) (bottom -ℤ pos 1) c.args.self.now c.args.other.now (subst (λ (z : Ranges). AreRanges z) c.self.view_is c.self.invariant) (subst (λ (z : Ranges). AreRanges z) c.other.view_is c.other.invariant))

pub returns-clause-ranges : goal.returns-clause-ranges
returns-clause-ranges c = meet_done _ c.args.self.now c.loop-r.rest.now c.loop-r.ranges.items _ c.loop-r.r-index (c.deref-r-items.ensures.value ∙ c.self.view_is) c.loop-r-test.false c.loop-r.invariant.so_far

pub returns-clause-numbers : goal.returns-clause-numbers
returns-clause-numbers c = let out = meet_done _ c.args.self.now c.loop-r.rest.now c.loop-r.ranges.items _ c.loop-r.r-index (c.deref-r-items.ensures.value ∙ c.self.view_is) c.loop-r-test.false c.loop-r.invariant.so_far in λ x. subst (λ (z : Ranges). has z x ≡ (has c.args.self.now x && has c.args.other.now x)) (sym out) (has_meet c.args.self.now c.args.other.now x)
