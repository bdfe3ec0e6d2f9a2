use Rattle.std.proofs.Common.{sym, subst, arith}
use Rattle.std.proofs.lemmas.Int.{to_z-of_z}
use Rattle.std.specs.Int.{w128}
use Rattle.acn_num.specs.Ranges.{Ranges, AreRanges}
use Rattle.acn_num.proofs.Nth.{nth_some, none_left, least_at, nth_fits, passed_more}
use Rattle.acn_num.proofs.range_set.RangeSet.least_except.Goals as goal

pub returns : goal.returns
returns c =
    let total = c.loop-place.invariant.total in
    none_left c.args.self.now c.args.avoided.now c.loop-place.place (subst (λ (z : Ranges). AreRanges z) c.self.view_is c.self.invariant) (omega arith) c.loop-place.invariant.passed

pub returns-in-None : goal.returns-in-None
returns-in-None c =
    let total = c.loop-place.invariant.total in
    absurd (nth_some c.args.self.now c.loop-place.place (omega arith) (sym (c.in-None.ensures {u = tt})))

pub returns-then-not-is_among : goal.returns-then-not-is_among
returns-then-not-is_among c =
    let ordered = subst (λ (z : Ranges). AreRanges z) c.self.view_is c.self.invariant in
    let fits = nth_fits c.args.self.now c.loop-place.place c.in-Some.x ordered (sym (c.in-Some.ensures {u = tt})) in
    let free = sym (c.if-not-is_among.ensures {u = tt}) in
    rw (to_z-of_z w128 c.in-Some.x fits)
    (least_at c.args.self.now c.args.avoided.now c.loop-place.place c.in-Some.x ordered (sym (c.in-Some.ensures {u = tt})) (rw (to_z-of_z w128 c.in-Some.x fits) at free) c.loop-place.invariant.passed)

pub loop-place-preserved : goal.loop-place-preserved
loop-place-preserved c =
    let ordered = subst (λ (z : Ranges). AreRanges z) c.self.view_is c.self.invariant in
    let fits = nth_fits c.args.self.now c.loop-place.place c.in-Some.x ordered (sym (c.in-Some.ensures {u = tt})) in
    let yes = sym (c.if-not-is_among.ensures {u = tt}) in
    record {
      total = c.loop-place.invariant.total;
      passed = passed_more c.args.self.now c.args.avoided.now c.loop-place.place c.in-Some.x (sym (c.in-Some.ensures {u = tt})) (rw (to_z-of_z w128 c.in-Some.x fits) at yes) c.loop-place.invariant.passed;
    }
