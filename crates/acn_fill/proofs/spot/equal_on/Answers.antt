use Rattle.std.proofs.Common.{◌++◌, ◌∷◌, [], true, false, sym, subst}
use Rattle.acn_grammar.specs.Asks.{Equal, Avoid}
use Rattle.acn_grammar.proofs.WholeTests.{eq_fact}
use Rattle.acn_fill.specs.Table.{KeepsIn, avoided_on}
use Rattle.acn_fill.specs.declared.spot.Spot.{Spot}
use Rattle.acn_fill.proofs.Spots.{permits_is, permits_fixed}
use Rattle.acn_asks.proofs.Steps.{not_same, turned, named, equal_again, equal_other, equal_first, equal_avoided, equal_forbidden}
use Rattle.acn_num.specs.Ranges.{has}
use Rattle.std.proofs.Common.{ap, ◌∙◌}
use Rattle.acn_fill.proofs.spot.equal_on.Goals as goal

pub returns-then-is_same-clause-kept : goal.returns-then-is_same-clause-kept
returns-then-is_same-clause-kept c =
    let e = c.args.spot.now in
    let av = avoided_on e.slot c.args.pool.now in
    λ set before k. record {
      permits = k.permits;
      keeps = turned true e.fixed (sym c.if-spot.true)
          (equal_again set before e.least c.args.n.now av (turned e.fixed true c.if-spot.true k.keeps) (eq_fact e.least c.args.n.now (sym (c.if-is_same.ensures {u = tt}))));
    }

pub returns-then-spot-clause-refused : goal.returns-then-spot-clause-refused
returns-then-spot-clause-refused c =
    let e = c.args.spot.now in
    let av = avoided_on e.slot c.args.pool.now in
    λ set before k. named _ (Equal e.least) c.equal.ensures
    (equal_other set before e.least c.args.n.now av (turned e.fixed true c.if-spot.true k.keeps) (not_same e.least c.args.n.now (sym (c.if-is_same.ensures {u = tt}))))

pub returns-then-is_avoided-clause-refused : goal.returns-then-is_avoided-clause-refused
returns-then-is_avoided-clause-refused c =
    let e = c.args.spot.now in
    let av = avoided_on e.slot c.args.pool.now in
    λ set before k. named _ (Avoid c.args.n.now) c.avoid.ensures
    (equal_avoided set before av (turned e.fixed false c.if-spot.false k.keeps).fixes c.args.n.now (sym (c.if-is_avoided.ensures {u = tt})))

pub returns-then-not-is_permitted-clause-refused : goal.returns-then-not-is_permitted-clause-refused
returns-then-not-is_permitted-clause-refused c =
    let e = c.args.spot.now in
    let av = avoided_on e.slot c.args.pool.now in
    λ set before k.
    equal_forbidden set before av (turned e.fixed false c.if-spot.false k.keeps).fixes c.args.n.now (sym (c.if-is_avoided.ensures {u = tt}))
    (ap (λ z. has z c.args.n.now) (sym (permits_is e.set e.fixed set k.permits c.if-spot.false)) ∙ sym (c.if-not-is_permitted.ensures {u = tt}))

pub returns-clause-kept : goal.returns-clause-kept
returns-clause-kept c =
    let e = c.args.spot.now in
    let av = avoided_on e.slot c.args.pool.now in
    λ set before k.
    subst (λ (z : Spot). KeepsIn set (before ++ Equal c.args.n.now ∷ []) z av) (sym c.with_number.ensures) (record {
      permits = permits_fixed e.set e.fixed set k.permits;
      keeps = equal_first set before av (turned e.fixed false c.if-spot.false k.keeps).fixes c.args.n.now (sym (c.if-is_avoided.ensures {u = tt}))
          (ap (λ z. has z c.args.n.now) (sym (permits_is e.set e.fixed set k.permits c.if-spot.false)) ∙ sym (c.if-not-is_permitted.ensures {u = tt}));
    })
