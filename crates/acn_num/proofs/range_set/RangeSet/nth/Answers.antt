use Rattle.std.proofs.Common.{◌<◌, sym, ap, subst, ◌∙◌, pos, arith, get_or}
use Rattle.std.specs.Prelude.{Some}
use Rattle.std.proofs.lemmas.Int.{ints, to_z-of_z}
use Rattle.std.specs.Int.{w128}
use Rattle.acn_num.specs.Ranges.{Ranges, AreRanges, IsRange, size_of}
use Rattle.acn_num.proofs.Turns.{range_at, fits_low, nth_turn}
use Rattle.acn_num.proofs.range_set.RangeSet.nth.Goals as goal

pub size-size-requires : goal.size-size-requires
size-size-requires c = let same = c.deref-r-items.ensures.value ∙ c.self.view_is in let range : IsRange (get_or c.deref-r-items.result.now c.loop-r.r-index (pos 0, pos 0)) = range_at _ c.args.self.now c.loop-r.r-index (pos 0, pos 0) same (subst (λ (z : Ranges). AreRanges z) c.self.view_is c.self.invariant) c.loop-r-test.true in range

pub overflow_add-result : goal.overflow_add-result
overflow_add-result c =
    let same = c.deref-r-items.ensures.value ∙ c.self.view_is in
    let range : IsRange (get_or c.deref-r-items.result.now c.loop-r.r-index (pos 0, pos 0)) = range_at c.deref-r-items.result.now c.args.self.now c.loop-r.r-index (pos 0, pos 0) (c.deref-r-items.ensures.value ∙ c.self.view_is) (subst (λ (z : Ranges). AreRanges z) c.self.view_is c.self.invariant) c.loop-r-test.true in
    let fit = fits_low (get_or c.deref-r-items.result.now c.loop-r.r-index (pos 0, pos 0)) range in
    let less = c.if-left-size.true in
    let small = c.size-size.ensures.small in
    let low = range.low in let order = range.order in let high = range.high in
    rw (to_z-of_z w128 (get_or c.deref-r-items.result.now c.loop-r.r-index (pos 0, pos 0)).0 fit) (omega (arith, ints))

pub returns-then-left-size : goal.returns-then-left-size
returns-then-left-size c =
    let same = c.deref-r-items.ensures.value ∙ c.self.view_is in
    let range : IsRange (get_or c.deref-r-items.result.now c.loop-r.r-index (pos 0, pos 0)) = range_at c.deref-r-items.result.now c.args.self.now c.loop-r.r-index (pos 0, pos 0) (c.deref-r-items.ensures.value ∙ c.self.view_is) (subst (λ (z : Ranges). AreRanges z) c.self.view_is c.self.invariant) c.loop-r-test.true in
    let less : c.loop-r.left < size_of (get_or c.deref-r-items.result.now c.loop-r.r-index (pos 0, pos 0)) = rw c.size-size.ensures.value at c.if-left-size.true in
    let fit = fits_low (get_or c.deref-r-items.result.now c.loop-r.r-index (pos 0, pos 0)) range in
    let small = c.size-size.ensures.small in let under = c.if-left-size.true in
    let low = range.low in let order = range.order in let high = range.high in
    ap Some (rw (to_z-of_z w128 (get_or c.deref-r-items.result.now c.loop-r.r-index (pos 0, pos 0)).0 fit) (omega (arith, ints))) ∙ sym (nth_turn c.deref-r-items.result.now c.args.self.now c.loop-r.r-index c.loop-r.left _ (c.deref-r-items.ensures.value ∙ c.self.view_is) c.loop-r-test.true less c.loop-r.invariant)
