use Rattle.std.proofs.Common.{◌≡◌, ◌-◌, ◌<◌, ◌≤◌, ◌++◌, refl, sym, ap, ◌∙◌, arith, rules}
use Rattle.std.specs.Prelude.{decimal, slice_index}
use Rattle.acn_printed.proofs.Pieces.{first, next}
use Rattle.acn_printed.proofs.numbers.digits.Goals as goal

pub returns-then-first-eq48-clause-read : goal.returns-then-first-eq48-clause-read
returns-then-first-eq48-clause-read c =
    let is : slice_index c.args.text.now 0 ≡ 48 = c.if-first-eq48.true in
    first c.args.text.now 48 (omega arith) (sym is) (omega arith) (omega arith) ∙ ap (λ t. decimal 0 ++ t) (sym c.split_at.ensures.back)

pub loop-end-init : goal.loop-end-init
loop-end-init c =
    let digit = slice_index c.args.text.now 0 in
    let low : 49 ≤ digit = search rules in
    let high : digit < 58 = search (rules, arith) in
    let value : c.from-value.result ≡ digit - 48 = search rules in
    record {
      within = omega arith;
      some = omega arith;
      few = omega arith;
      same = rw value (first c.args.text.now digit (omega arith) refl (omega arith) high);
    }

pub loop-end-preserved : goal.loop-end-preserved
loop-end-preserved c =
    let i = c.loop-end.invariant in
    let some = i.some in
    let few : c.loop-end.value < 100000000000000000 = search rules in
    let digit = slice_index c.args.text.now c.loop-end.end in
    let low : 48 ≤ digit = search rules in
    let high : digit < 58 = search (rules, arith) in
    let value : c.from.result ≡ digit - 48 = search rules in
    record {
      within = omega arith;
      some = omega arith;
      few = omega arith;
      same = rw value (next c.args.text.now c.loop-end.end digit c.loop-end.value (omega arith) refl low high i.some few i.same);
    }
