use Rattle.std.proofs.Common.{subst, ◌∙◌, pos, arith, get_or}
use Rattle.acn_num.specs.Ranges.{Ranges, AreRanges, IsRange}
use Rattle.acn_num.proofs.Turns.{range_at, count_small, count_turn}
use Rattle.acn_num.proofs.range_set.RangeSet.count.Goals as goal

pub size-total-requires : goal.size-total-requires
size-total-requires c = let same = c.deref-r-items.ensures.value ∙ c.self.view_is in let range : IsRange (get_or c.deref-r-items.result.now c.loop-r.r-index (pos 0, pos 0)) = range_at _ c.args.self.now c.loop-r.r-index (pos 0, pos 0) same (subst (λ (z : Ranges). AreRanges z) c.self.view_is c.self.invariant) c.loop-r-test.true in range

pub overflow_add-total : goal.overflow_add-total
overflow_add-total c =
    let small = count_small c.args.self.now (subst (λ (z : Ranges). AreRanges z) c.self.view_is c.self.invariant) in
    let turn = count_turn c.deref-r-items.result.now c.args.self.now c.loop-r.r-index c.loop-r.total (c.deref-r-items.ensures.value ∙ c.self.view_is) c.loop-r-test.true c.loop-r.invariant in
    let size = c.size-total.ensures.value in
    omega arith
