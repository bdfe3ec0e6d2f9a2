use Rattle.std.proofs.Common.{◌≡◌, ◌++◌, ◌∷◌, [], true, get_or, set, sym, ap, ◌∙◌}
use Rattle.std.specs.Prelude.{option_map}
use Rattle.acn_grammar.specs.Asks.{Equal}
use Rattle.acn_grammar.specs.Faults.{ask_of}
use Rattle.acn_fill.specs.Table.{Table, has_spot, place, avoided_on}
use Rattle.acn_fill.proofs.Spots.{spot-here, slot-here}
use Rattle.acn_fill.proofs.Changes.{whole_set, more_set, refuses_at, at_own}
use Rattle.acn_fill.proofs.table.Fills.ask_equal.Goals as goal

pub invariant_of-self : goal.invariant_of-self
invariant_of-self g c =
    let xs = c.self.inside.spots.items in
    let e = c.index-deref-i.result in
    let begun : has_spot c.args.slot xs ≡ true = ap (λ (z : Table). has_spot c.args.slot z.spots) c.self.view_is ∙ c.requires.begun in
    let found : c.place_of-i.result ≡ place c.args.slot xs = cc in
    let is : e ≡ get_or xs c.place_of-i.result e = cc in
    whole_set c.self.inside.holes xs c.put_spot.new.spots.items c.self.inside.avoided.items c.self.inside.avoided.items c.args.slot c.place_of-i.result e c.in-Ok.next c.self.invariant begun found
    (spot-here c.args.slot xs c.place_of-i.result e begun found is) c.put_spot.ensures c.in-Ok.ensures.slot c.in-Ok.ensures.set c.self.invariant.2 c.self.invariant.3

pub returns-in-Ok-clause-kept : goal.returns-in-Ok-clause-kept
returns-in-Ok-clause-kept g c =
    let old = c.args.self.now in
    let xs = c.self.inside.spots.items in
    let e = c.index-deref-i.result in
    let same : xs ≡ old.spots = ap (λ (z : Table). z.spots) c.self.view_is in
    let found' : c.place_of-i.result ≡ place c.args.slot xs = cc in
    let is' : e ≡ get_or xs c.place_of-i.result e = cc in
    let found : c.place_of-i.result ≡ place c.args.slot old.spots = found' ∙ ap (place c.args.slot) same in
    let is : e ≡ get_or old.spots c.place_of-i.result e = is' ∙ ap (λ z. get_or z c.place_of-i.result e) same in
    let here = spot-here c.args.slot old.spots c.place_of-i.result e c.requires.begun found is in
    let pool : c.as_slice-2.result.now ≡ old.avoided = c.as_slice-2.ensures.value ∙ ap (λ (z : Table). z.avoided) c.self.view_is in
    more_set old _ c.args.slot c.place_of-i.result e c.in-Ok.next (Equal c.args.n.now) c.requires.begun found here
    (c.put_spot.ensures ∙ ap (λ (z : Table). set z.spots c.place_of-i.result c.in-Ok.next) c.self.view_is) c.in-Ok.ensures.slot (ap (λ (z : Table). z.gaps) c.self.view_is)
    (λ t n. ap (λ (z : Table). avoided_on t z.avoided) c.self.view_is)
    (λ set' before k. at_own set' (before ++ Equal c.args.n.now ∷ []) c.in-Ok.next e.slot c.args.slot c.as_slice-2.result.now c.self.inside.avoided.items (slot-here c.args.slot old.spots e here) c.as_slice-2.ensures.value
    (c.in-Ok.ensures.kept set' before (at_own set' before e c.args.slot e.slot old.avoided c.as_slice-2.result.now (sym (slot-here c.args.slot old.spots e here)) (sym pool) k)))

pub returns-in-Err-clause-refused : goal.returns-in-Err-clause-refused
returns-in-Err-clause-refused g c =
    let old = c.args.self.now in
    let xs = c.self.inside.spots.items in
    let e = c.index-deref-i.result in
    let same : xs ≡ old.spots = ap (λ (z : Table). z.spots) c.self.view_is in
    let found' : c.place_of-i.result ≡ place c.args.slot xs = cc in
    let is' : e ≡ get_or xs c.place_of-i.result e = cc in
    let found : c.place_of-i.result ≡ place c.args.slot old.spots = found' ∙ ap (place c.args.slot) same in
    let is : e ≡ get_or old.spots c.place_of-i.result e = is' ∙ ap (λ z. get_or z c.place_of-i.result e) same in
    let here = spot-here c.args.slot old.spots c.place_of-i.result e c.requires.begun found is in
    let pool : c.as_slice-2.result.now ≡ old.avoided = c.as_slice-2.ensures.value ∙ ap (λ (z : Table). z.avoided) c.self.view_is in
    refuses_at old c.args.slot e (Equal c.args.n.now) (option_map ask_of c.in-Err.earlier) here
    (λ set' before k. c.in-Err.ensures.refused set' before (at_own set' before e c.args.slot e.slot old.avoided c.as_slice-2.result.now (sym (slot-here c.args.slot old.spots e here)) (sym pool) k))
