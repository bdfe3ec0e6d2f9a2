use Rattle.std.specs.Prelude.{is_some}
use Rattle.std.proofs.Common.{rules, FitsSigned}
use Rattle.std.proofs.lemmas.Int.{to_z-of_z}
use Rattle.std.specs.Int.{w128}
use Rattle.std.proofs.Common.{◌≡◌, ℕ, ◌+◌, arith, length, length-append, ◌++◌, ◌∷◌, [], List, ℤ, true, get_or, set, refl, sym, ap, ◌∙◌, subst}
use Rattle.std.specs.Prelude.{None}
use Rattle.acn_grammar.specs.Asks.{Equal, Avoid}
use Rattle.acn_grammar.proofs.WholeTests.{eq_fact}
use Rattle.acn_num.specs.Ranges.{has, among, IsLeastExcept}
use Rattle.acn_fill.specs.Table.{Table, KeepsIn, has_spot, place, avoided_on, set_of}
use Rattle.acn_fill.specs.declared.spot.Spot.{Spot}
use Rattle.acn_fill.proofs.Spots.{spot-here}
use Rattle.acn_asks.proofs.Steps.{not_same, named}
use Rattle.acn_fill.proofs.Changes.{whole_set, more_set, more_same, refuses_at, pool_others, pool_own, pool_clean, pool_few, room_at, fixed_other, fixed_same, avoided_again, avoided_more, avoided_least, avoided_last, with_number}
use Rattle.acn_fill.proofs.table.Fills.ask_avoid.Goals as goal

pub returns-then-is_same-clause-refused : goal.returns-then-is_same-clause-refused
returns-then-is_same-clause-refused g c =
    let old = c.args.self.now in
    let xs = c.self.inside.spots.items in
    let e = c.index-deref-i.result in
    let same : xs ≡ old.spots = ap (λ (z : Table). z.spots) c.self.view_is in
    let found' : c.place_of-i.result ≡ place c.args.slot xs = cc in
    let is' : e ≡ get_or xs c.place_of-i.result e = cc in
    let here = spot-here c.args.slot old.spots c.place_of-i.result e c.requires.begun (found' ∙ ap (place c.args.slot) same) (is' ∙ ap (λ z. get_or z c.place_of-i.result e) same) in
    refuses_at old c.args.slot e (Avoid c.args.k.now) _ here
    (λ set' before k. named _ (Equal e.least) c.equal.ensures (fixed_same set' before e c.args.k.now (avoided_on c.args.slot old.avoided) c.if-spot.true (eq_fact e.least c.args.k.now (sym (c.if-is_same.ensures {u = tt}))) k))

pub returns-then-spot-clause-kept : goal.returns-then-spot-clause-kept
returns-then-spot-clause-kept g c =
    let old = c.args.self.now in
    let xs = c.self.inside.spots.items in
    let e = c.index-deref-i.result in
    let same : xs ≡ old.spots = ap (λ (z : Table). z.spots) c.self.view_is in
    let found' : c.place_of-i.result ≡ place c.args.slot xs = cc in
    let is' : e ≡ get_or xs c.place_of-i.result e = cc in
    let here = spot-here c.args.slot old.spots c.place_of-i.result e c.requires.begun (found' ∙ ap (place c.args.slot) same) (is' ∙ ap (λ z. get_or z c.place_of-i.result e) same) in
    more_same old old c.args.slot e (Avoid c.args.k.now) here refl refl (λ t n. refl)
    (λ set' before k. fixed_other set' before e c.args.k.now (avoided_on c.args.slot old.avoided) c.if-spot.true (not_same e.least c.args.k.now (sym (c.if-is_same.ensures {u = tt}))) k)

pub returns-then-is_avoided-clause-kept : goal.returns-then-is_avoided-clause-kept
returns-then-is_avoided-clause-kept g c =
    let old = c.args.self.now in
    let xs = c.self.inside.spots.items in
    let e = c.index-deref-i.result in
    let same : xs ≡ old.spots = ap (λ (z : Table). z.spots) c.self.view_is in
    let found' : c.place_of-i.result ≡ place c.args.slot xs = cc in
    let is' : e ≡ get_or xs c.place_of-i.result e = cc in
    let here = spot-here c.args.slot old.spots c.place_of-i.result e c.requires.begun (found' ∙ ap (place c.args.slot) same) (is' ∙ ap (λ z. get_or z c.place_of-i.result e) same) in
    let pool : c.as_slice-2.result.now ≡ old.avoided = c.as_slice-2.ensures.value ∙ ap (λ (z : Table). z.avoided) c.self.view_is in
    more_same old old c.args.slot e (Avoid c.args.k.now) here refl refl (λ t n. refl)
    (λ set' before k. avoided_again set' before e c.args.k.now (avoided_on c.args.slot old.avoided) c.if-spot.false
    (ap (λ z. among (avoided_on c.args.slot z) c.args.k.now) (sym pool) ∙ sym (c.if-is_avoided.ensures {u = tt})) k)

pub invariant_of-self : goal.invariant_of-self
invariant_of-self g c =
    let xs = c.self.inside.spots.items in
    let begun : has_spot c.args.slot xs ≡ true = ap (λ (z : Table). has_spot c.args.slot z.spots) c.self.view_is ∙ c.requires.begun in
    let e = c.index-deref-i.result in
    let found : c.place_of-i.result ≡ place c.args.slot c.self.inside.spots.items = cc in
    let is : e ≡ get_or c.self.inside.spots.items c.place_of-i.result e = cc in
    let room = room_at _ c.args.self.now c.args.slot c.place_of-i.result e c.args.k.now c.self.inside.spots.items c.self.inside.avoided.items c.as_slice-2.result.now (ap (λ (z : Table). z.spots) c.self.view_is) (ap (λ (z : Table). z.avoided) c.self.view_is)
    c.requires.begun found is c.if-spot.false c.as_slice-2.ensures.value (sym (c.if-is_avoided.ensures {u = tt})) c.requires.room in
    (c.self.invariant.0, c.self.invariant.1, pool_clean c.args.slot xs c.self.inside.avoided.items c.push_avoided.new.pool.items c.args.k.now begun c.self.invariant.2 c.push_avoided.ensures, pool_few c.args.slot c.self.inside.avoided.items c.push_avoided.new.pool.items c.args.k.now c.self.invariant.3 room.0 room.2 c.push_avoided.ensures, c.self.invariant.4)

pub returns-then-not-is_same-clause-kept : goal.returns-then-not-is_same-clause-kept
returns-then-not-is_same-clause-kept g c =
    let old = c.args.self.now in
    let xs = c.self.inside.spots.items in
    let e = c.index-deref-i.result in
    let same : xs ≡ old.spots = ap (λ (z : Table). z.spots) c.self.view_is in
    let found' : c.place_of-i.result ≡ place c.args.slot xs = cc in
    let is' : e ≡ get_or xs c.place_of-i.result e = cc in
    let here = spot-here c.args.slot old.spots c.place_of-i.result e c.requires.begun (found' ∙ ap (place c.args.slot) same) (is' ∙ ap (λ z. get_or z c.place_of-i.result e) same) in
    let pushed : c.push_avoided.new.pool.items ≡ old.avoided ++ (c.args.slot, c.args.k.now) ∷ [] = c.push_avoided.ensures ∙ ap (λ (z : Table). z.avoided ++ (c.args.slot, c.args.k.now) ∷ []) c.self.view_is in
    more_same old _ c.args.slot e (Avoid c.args.k.now) here same (ap (λ (z : Table). z.gaps) c.self.view_is)
    (pool_others c.args.slot old.avoided c.push_avoided.new.pool.items c.args.k.now pushed)
    (λ set' before k. subst (λ (z : List ℤ). KeepsIn set' (before ++ Avoid c.args.k.now ∷ []) e z) (sym (pool_own c.args.slot old.avoided c.push_avoided.new.pool.items c.args.k.now pushed))
    (avoided_more set' before e c.args.k.now (avoided_on c.args.slot old.avoided) c.if-spot.false (not_same e.least c.args.k.now (sym (c.if-not-is_same.ensures {u = tt}))) k))

pub push_avoided-requires : goal.push_avoided-requires
push_avoided-requires g c =
    let e = c.index-deref-i.result in
    let found : c.place_of-i.result ≡ place c.args.slot c.self.inside.spots.items = cc in
    let is : e ≡ get_or c.self.inside.spots.items c.place_of-i.result e = cc in
    let room = room_at _ c.args.self.now c.args.slot c.place_of-i.result e c.args.k.now c.self.inside.spots.items c.self.inside.avoided.items c.as_slice-2.result.now (ap (λ (z : Table). z.spots) c.self.view_is) (ap (λ (z : Table). z.avoided) c.self.view_is)
    c.requires.begun found is c.if-spot.false c.as_slice-2.ensures.value (sym (c.if-is_avoided.ensures {u = tt})) c.requires.room in
    (search rules, room.1)

pub least_free-requires : goal.least_free-requires
least_free-requires g c =
    let e = c.index-deref-i.result in
    let found : c.place_of-i.result ≡ place c.args.slot c.self.inside.spots.items = cc in
    let is : e ≡ get_or c.self.inside.spots.items c.place_of-i.result e = cc in
    let room = room_at _ c.args.self.now c.args.slot c.place_of-i.result e c.args.k.now c.self.inside.spots.items c.self.inside.avoided.items c.as_slice-2.result.now (ap (λ (z : Table). z.spots) c.self.view_is) (ap (λ (z : Table). z.avoided) c.self.view_is)
    c.requires.begun found is c.if-spot.false c.as_slice-2.ensures.value (sym (c.if-is_avoided.ensures {u = tt})) c.requires.room in
    let long : length (avoided_on c.args.slot c.as_slice-3.result.now) ≡ length (avoided_on c.args.slot c.self.inside.avoided.items) + 1 =
    ap (λ (z : List (ℕ × ℤ)). length (avoided_on c.args.slot z)) c.as_slice-3.ensures.value ∙ (ap length (pool_own c.args.slot c.self.inside.avoided.items c.push_avoided.new.pool.items c.args.k.now c.push_avoided.ensures) ∙ length-append (avoided_on c.args.slot c.self.inside.avoided.items) (c.args.k.now ∷ [])) in
    record { few = omega (arith, long, room.2) }

pub invariant_of-self-in-Some : goal.invariant_of-self-in-Some
invariant_of-self-in-Some g c =
    let xs = c.self.inside.spots.items in
    let e = c.index-deref-i.result in
    let begun : has_spot c.args.slot xs ≡ true = ap (λ (z : Table). has_spot c.args.slot z.spots) c.self.view_is ∙ c.requires.begun in
    let found : c.place_of-i.result ≡ place c.args.slot xs = cc in
    let is : e ≡ get_or xs c.place_of-i.result e = cc in
    let room = room_at _ c.args.self.now c.args.slot c.place_of-i.result e c.args.k.now c.self.inside.spots.items c.self.inside.avoided.items c.as_slice-2.result.now (ap (λ (z : Table). z.spots) c.self.view_is) (ap (λ (z : Table). z.avoided) c.self.view_is)
    c.requires.begun found is c.if-spot.false c.as_slice-2.ensures.value (sym (c.if-is_avoided.ensures {u = tt})) c.requires.room in
    whole_set c.self.inside.holes xs c.put_spot.new.spots.items c.self.inside.avoided.items c.push_avoided.new.pool.items c.args.slot c.place_of-i.result e c.with_least.result c.self.invariant begun found
    (spot-here c.args.slot xs c.place_of-i.result e begun found is) c.put_spot.ensures (ap (λ (z : Spot). z.slot) c.with_least.ensures) (ap (λ (z : Spot). is_some z.set) c.with_least.ensures)
    (pool_clean c.args.slot xs c.self.inside.avoided.items c.push_avoided.new.pool.items c.args.k.now begun c.self.invariant.2 c.push_avoided.ensures)
    (pool_few c.args.slot c.self.inside.avoided.items c.push_avoided.new.pool.items c.args.k.now c.self.invariant.3 room.0 room.2 c.push_avoided.ensures)

pub returns-in-Some-clause-kept : goal.returns-in-Some-clause-kept
returns-in-Some-clause-kept g c =
    let old = c.args.self.now in
    let xs = c.self.inside.spots.items in
    let e = c.index-deref-i.result in
    let same : xs ≡ old.spots = ap (λ (z : Table). z.spots) c.self.view_is in
    let found' : c.place_of-i.result ≡ place c.args.slot xs = cc in
    let is' : e ≡ get_or xs c.place_of-i.result e = cc in
    let found = found' ∙ ap (place c.args.slot) same in
    let here = spot-here c.args.slot old.spots c.place_of-i.result e c.requires.begun found (is' ∙ ap (λ z. get_or z c.place_of-i.result e) same) in
    let pushed : c.push_avoided.new.pool.items ≡ old.avoided ++ (c.args.slot, c.args.k.now) ∷ [] = c.push_avoided.ensures ∙ ap (λ (z : Table). z.avoided ++ (c.args.slot, c.args.k.now) ∷ []) c.self.view_is in
    let own = pool_own c.args.slot old.avoided c.push_avoided.new.pool.items c.args.k.now pushed in
    let all : avoided_on c.args.slot c.as_slice-3.result.now ≡ avoided_on c.args.slot old.avoided ++ c.args.k.now ∷ [] = ap (avoided_on c.args.slot) c.as_slice-3.ensures.value ∙ own in
    let fits : FitsSigned w128 c.in-Some.least = search rules in
    let numbered = with_number e _ c.in-Some.least (to_z-of_z w128 c.in-Some.least fits) in
    let least = subst (λ (z : List ℤ). IsLeastExcept (set_of e.set) z c.in-Some.least) all (c.in-Some.ensures {u = tt}) in
    more_set old _ c.args.slot c.place_of-i.result e c.with_least.result (Avoid c.args.k.now) c.requires.begun found here
    (c.put_spot.ensures ∙ ap (λ (z : Table). set z.spots c.place_of-i.result c.with_least.result) c.self.view_is) (ap (λ (z : Spot). z.slot) c.with_least.ensures) (ap (λ (z : Table). z.gaps) c.self.view_is)
    (pool_others c.args.slot old.avoided c.push_avoided.new.pool.items c.args.k.now pushed)
    (λ set' before k. subst (λ (z : List ℤ). KeepsIn set' (before ++ Avoid c.args.k.now ∷ []) c.with_least.result z) (sym own)
    (subst (λ (z : Spot). KeepsIn set' (before ++ Avoid c.args.k.now ∷ []) z (avoided_on c.args.slot old.avoided ++ c.args.k.now ∷ [])) (sym (c.with_least.ensures ∙ numbered))
    (avoided_least set' before e c.args.k.now (avoided_on c.args.slot old.avoided) c.in-Some.least c.if-spot.false least k)))

pub returns-in-None-clause-refused : goal.returns-in-None-clause-refused
returns-in-None-clause-refused g c =
    let old = c.args.self.now in
    let xs = c.self.inside.spots.items in
    let e = c.index-deref-i.result in
    let same : xs ≡ old.spots = ap (λ (z : Table). z.spots) c.self.view_is in
    let found' : c.place_of-i.result ≡ place c.args.slot xs = cc in
    let is' : e ≡ get_or xs c.place_of-i.result e = cc in
    let here = spot-here c.args.slot old.spots c.place_of-i.result e c.requires.begun (found' ∙ ap (place c.args.slot) same) (is' ∙ ap (λ z. get_or z c.place_of-i.result e) same) in
    let pushed : c.push_avoided.new.pool.items ≡ old.avoided ++ (c.args.slot, c.args.k.now) ∷ [] = c.push_avoided.ensures ∙ ap (λ (z : Table). z.avoided ++ (c.args.slot, c.args.k.now) ∷ []) c.self.view_is in
    let own = pool_own c.args.slot old.avoided c.push_avoided.new.pool.items c.args.k.now pushed in
    let all : avoided_on c.args.slot c.as_slice-3.result.now ≡ avoided_on c.args.slot old.avoided ++ c.args.k.now ∷ [] = ap (avoided_on c.args.slot) c.as_slice-3.ensures.value ∙ own in
    let taken = subst (λ (z : List ℤ). (x : ℤ) → has (set_of e.set) x ≡ true → among z x ≡ true) all (c.in-None.ensures {u = tt}) in
    refuses_at old c.args.slot e (Avoid c.args.k.now) None here
    (λ set' before k. avoided_last set' before e c.args.k.now (avoided_on c.args.slot old.avoided) c.if-spot.false taken k)
