use Rattle.std.proofs.Common.{rules, FitsSigned, ◌≡◌, sym, ◌∙◌, subst, arith}
use Rattle.std.specs.Prelude.{pos}
use Rattle.std.proofs.lemmas.Int.{to_z-of_z, ints}
use Rattle.std.specs.Int.{w128}
use Rattle.acn_num.specs.Ranges.{AreRanges}
use Rattle.acn_extremes.proofs.Endings.{greatest_in, ends_are, both_or_none}
use Rattle.acn_extremes.proofs.parts.set_ends.Goals as goal

pub natural-requires-in-Some-greatest-clause-least : goal.natural-requires-in-Some-greatest-clause-least
natural-requires-in-Some-greatest-clause-least c =
    let above = subst AreRanges c.ranges-ranges.ensures.same c.ranges-ranges.ensures.ordered in
    let fits : FitsSigned w128 c.in-Some-greatest.high = search rules in
    rw (to_z-of_z w128 c.in-Some-greatest.high fits) ((c.requires _ (greatest_in _ c.args.set.now _ above (sym c.greatest.ensures ∙ c.in-Some-greatest.is))).0)

pub natural-requires-in-Some-greatest-clause-small : goal.natural-requires-in-Some-greatest-clause-small
natural-requires-in-Some-greatest-clause-small c =
    let above = subst AreRanges c.ranges-ranges.ensures.same c.ranges-ranges.ensures.ordered in
    let fits : FitsSigned w128 c.in-Some-greatest.high = search rules in
    let high = (c.requires _ (greatest_in _ c.args.set.now _ above (sym c.greatest.ensures ∙ c.in-Some-greatest.is))).1 in
    rw (to_z-of_z w128 c.in-Some-greatest.high fits) (omega (arith, ints))

pub returns-in-None-greatest : goal.returns-in-None-greatest
returns-in-None-greatest c = absurd (both_or_none c.args.set.now _ (sym c.least.ensures ∙ c.in-Some.is) (sym c.greatest.ensures ∙ c.in-None-greatest.is))

pub returns-in-Some-greatest : goal.returns-in-Some-greatest
returns-in-Some-greatest c =
    let above = subst AreRanges c.ranges-ranges.ensures.same c.ranges-ranges.ensures.ordered in
    let fits : FitsSigned w128 c.in-Some.low = search rules in
    let fits' : FitsSigned w128 c.in-Some-greatest.high = search rules in
    let one = to_z-of_z w128 c.in-Some.low fits in
    let two = to_z-of_z w128 c.in-Some-greatest.high fits' in
    let e = c.natural.ensures in
    let f = c.natural-in-Some-greatest.ensures in
    let low : pos c.natural.result ≡ c.in-Some.low = omega (arith, ints) in
    let high : pos c.natural-in-Some-greatest.result ≡ c.in-Some-greatest.high = omega (arith, ints) in
    rw (low, high) (sym (ends_are _ c.args.set.now _ _ above (sym c.least.ensures ∙ c.in-Some.is) (sym c.greatest.ensures ∙ c.in-Some-greatest.is)))
