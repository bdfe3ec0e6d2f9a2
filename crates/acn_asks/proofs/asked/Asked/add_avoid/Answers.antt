use Rattle.std.proofs.Common.{rules, FitsSigned, sym, ap, ◌∙◌, ◌++◌, ◌∷◌, [], true, false, ◌≡◌, length}
use Rattle.std.proofs.lemmas.Int.{to_z-of_z}
use Rattle.std.specs.Int.{w128}
use Rattle.acn_grammar.specs.Asks.{Equal}
use Rattle.acn_grammar.proofs.WholeTests.{eq_fact}
use Rattle.acn_asks.proofs.Steps.{not_same, turned, listed, named, is_one, avoid_other, avoid_fixed, avoid_again, avoid_more, avoid_least, avoid_last, least_except-of, none_left-of, front_left}
use Rattle.acn_asks.proofs.asked.Asked.add_avoid.Goals as goal

pub returns-then-is_same-clause-refused : goal.returns-then-is_same-clause-refused
returns-then-is_same-clause-refused c =
    let kept = c.args.self.now in
    λ before k. named _ (Equal kept.least) c.equal.ensures
    (avoid_fixed c.args.set.now before kept.least c.args.k.now kept.avoided.items (turned kept.fixed true c.if-self.true k) (eq_fact kept.least c.args.k.now (sym (c.if-is_same.ensures {u = tt}))))

pub returns-then-self-clause-kept : goal.returns-then-self-clause-kept
returns-then-self-clause-kept c =
    let kept = c.args.self.now in
    λ before k. turned true kept.fixed (sym c.if-self.true)
    (avoid_other c.args.set.now before kept.least c.args.k.now kept.avoided.items (turned kept.fixed true c.if-self.true k) (not_same kept.least c.args.k.now (sym (c.if-is_same.ensures {u = tt}))))

pub returns-then-among-clause-kept : goal.returns-then-among-clause-kept
returns-then-among-clause-kept c =
    let kept = c.args.self.now in
    λ before k.
    let k' = turned kept.fixed false c.if-self.false k in
    turned false kept.fixed (sym c.if-self.false)
    (avoid_again c.args.set.now before kept.avoided.items k'.fixes kept.least c.args.k.now k'.answer (is_one _ kept.avoided.items true c.args.k.now c.deref.ensures.value (c.if-among.ensures {u = tt})))

pub returns-in-Err-clause-unchanged : goal.returns-in-Err-clause-unchanged
returns-in-Err-clause-unchanged c = λ before k. listed _ _ (sym c.in-Err.ensures.items) k

pub returns-then-not-is_same-clause-kept : goal.returns-then-not-is_same-clause-kept
returns-then-not-is_same-clause-kept c =
    let kept = c.args.self.now in
    let fits : FitsSigned w128 c.args.k.now = search rules in
    let new : c.push.new.self.items ≡ kept.avoided.items ++ c.args.k.now ∷ [] = rw (to_z-of_z w128 c.args.k.now fits) at c.in-Ok.ensures.items in
    λ before k.
    let k' = turned kept.fixed false c.if-self.false k in
    turned false kept.fixed (sym c.if-self.false) (listed _ _ (sym new)
    (avoid_more c.args.set.now before kept.avoided.items k'.fixes kept.least c.args.k.now k'.answer (not_same kept.least c.args.k.now (sym (c.if-not-is_same.ensures {u = tt})))))

pub returns-in-Some-clause-kept : goal.returns-in-Some-clause-kept
returns-in-Some-clause-kept c =
    let kept = c.args.self.now in
    let fits : FitsSigned w128 c.args.k.now = search rules in
    let fits' : FitsSigned w128 c.in-Some.least = search rules in
    let new : c.push.new.self.items ≡ kept.avoided.items ++ c.args.k.now ∷ [] = rw (to_z-of_z w128 c.args.k.now fits) at c.in-Ok.ensures.items in
    λ before k.
    let k' = turned kept.fixed false c.if-self.false k in
    rw (to_z-of_z w128 c.in-Some.least fits') (turned false kept.fixed (sym c.if-self.false) (listed _ _ (sym new)
    (avoid_least c.args.set.now before kept.avoided.items k'.fixes c.in-Some.least c.args.k.now (least_except-of (c.deref-2.ensures.value ∙ new) (c.in-Some.ensures {u = tt})))))

pub returns-in-None-clause-refused : goal.returns-in-None-clause-refused
returns-in-None-clause-refused c =
    let kept = c.args.self.now in
    let fits : FitsSigned w128 c.args.k.now = search rules in
    let new : c.push.new.self.items ≡ kept.avoided.items ++ c.args.k.now ∷ [] = rw (to_z-of_z w128 c.args.k.now fits) at c.in-Ok.ensures.items in
    λ before k.
    let k' = turned kept.fixed false c.if-self.false k in
    avoid_last c.args.set.now before kept.avoided.items k'.fixes c.args.k.now (none_left-of c.args.set.now _ _ (c.deref-2.ensures.value ∙ new) (c.in-None.ensures {u = tt}))

pub returns-in-None-clause-unchanged : goal.returns-in-None-clause-unchanged
returns-in-None-clause-unchanged c =
    let kept = c.args.self.now in
    let fits : FitsSigned w128 c.args.k.now = search rules in
    let new : c.push.new.self.items ≡ kept.avoided.items ++ c.args.k.now ∷ [] = rw (to_z-of_z w128 c.args.k.now fits) at c.in-Ok.ensures.items in
    let count : c.len-count.result ≡ length kept.avoided.items = c.len-count.ensures ∙ (sym c.deref.ensures.len ∙ ap length c.deref.ensures.value) in
    λ before k. listed _ _ (sym (front_left c.len-count.result _ kept.avoided.items c.args.k.now _ count new c.truncate.ensures.items)) k
