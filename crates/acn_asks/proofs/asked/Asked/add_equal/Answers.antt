use Rattle.std.proofs.Common.{rules, FitsSigned, sym, true, false}
use Rattle.std.proofs.lemmas.Int.{to_z-of_z}
use Rattle.std.specs.Int.{w128}
use Rattle.acn_grammar.specs.Asks.{Equal, Avoid}
use Rattle.acn_grammar.proofs.WholeTests.{eq_fact}
use Rattle.acn_asks.proofs.Steps.{not_same, turned, named, is_one, equal_again, equal_other, equal_first, equal_avoided, equal_forbidden}
use Rattle.acn_asks.proofs.asked.Asked.add_equal.Goals as goal

pub returns-then-is_same-clause-kept : goal.returns-then-is_same-clause-kept
returns-then-is_same-clause-kept c =
    let kept = c.args.self.now in
    λ before k. turned true kept.fixed (sym c.if-self.true)
    (equal_again c.args.set.now before kept.least c.args.n.now kept.avoided.items (turned kept.fixed true c.if-self.true k) (eq_fact kept.least c.args.n.now (sym (c.if-is_same.ensures {u = tt}))))

pub returns-then-self-clause-refused : goal.returns-then-self-clause-refused
returns-then-self-clause-refused c =
    let kept = c.args.self.now in
    λ before k. named _ (Equal kept.least) c.equal.ensures
    (equal_other c.args.set.now before kept.least c.args.n.now kept.avoided.items (turned kept.fixed true c.if-self.true k) (not_same kept.least c.args.n.now (sym (c.if-is_same.ensures {u = tt}))))

pub returns-then-among-clause-refused : goal.returns-then-among-clause-refused
returns-then-among-clause-refused c =
    let kept = c.args.self.now in
    λ before k. named _ (Avoid c.args.n.now) c.avoid.ensures
    (equal_avoided c.args.set.now before kept.avoided.items (turned kept.fixed false c.if-self.false k).fixes c.args.n.now (is_one _ kept.avoided.items true c.args.n.now c.deref.ensures.value (c.if-among.ensures {u = tt})))

pub returns-then-not-is_permitted-clause-refused :
    goal.returns-then-not-is_permitted-clause-refused
returns-then-not-is_permitted-clause-refused c =
    let kept = c.args.self.now in
    λ before k. equal_forbidden c.args.set.now before kept.avoided.items (turned kept.fixed false c.if-self.false k).fixes c.args.n.now
    (is_one _ kept.avoided.items false c.args.n.now c.deref.ensures.value (c.if-among.ensures {u = tt}))
    (sym (c.if-not-is_permitted.ensures {u = tt}))

pub returns-clause-kept : goal.returns-clause-kept
returns-clause-kept c =
    let kept = c.args.self.now in
    let fits : FitsSigned w128 c.args.n.now = search rules in
    λ before k. rw (to_z-of_z w128 c.args.n.now fits) (equal_first c.args.set.now before kept.avoided.items (turned kept.fixed false c.if-self.false k).fixes c.args.n.now
    (is_one _ kept.avoided.items false c.args.n.now c.deref.ensures.value (c.if-among.ensures {u = tt}))
    (sym (c.if-not-is_permitted.ensures {u = tt})))
