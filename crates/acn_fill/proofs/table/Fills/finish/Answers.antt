use Rattle.std.proofs.Common.{rules, FitsSigned, ◌≡◌, length, true, get_or, remove, sym, ap, ◌∙◌}
use Rattle.std.proofs.lemmas.Int.{to_z-of_z}
use Rattle.std.specs.Int.{w128}
use Rattle.acn_fill.specs.Table.{Table, has_spot, place, avoided_on, without}
use Rattle.acn_fill.proofs.Spots.{spot-here, kept_at, remove-length}
use Rattle.acn_fill.proofs.Changes.{whole_less, less_ended, less_few, less_others, less_rest, less_slots}
use Rattle.acn_fill.proofs.table.Fills.finish.Goals as goal

pub invariant_of-self : goal.invariant_of-self
invariant_of-self g c =
    let xs = c.self.inside.spots.items in
    let begun : has_spot c.args.slot xs ≡ true = ap (λ (z : Table). has_spot c.args.slot z.spots) c.self.view_is ∙ c.requires.begun in
    let found : c.place_of-i.result ≡ place c.args.slot xs = cc in
    whole_less c.self.inside.holes c.release-hole.new.self xs c.remove-spot.new.self.items c.self.inside.avoided.items c.purge.new.pool.items c.args.slot c.place_of-i.result c.self.invariant begun found
    c.remove-spot.ensures.items c.release-hole.ensures.rest c.purge.ensures (remove-length c.args.slot c.place_of-i.result xs c.self.inside.holes c.release-hole.new.self begun found c.self.invariant.0 c.release-hole.ensures.rest)

pub returns-clause-least : goal.returns-clause-least
returns-clause-least g c =
    let old = c.args.self.now in
    let xs = c.self.inside.spots.items in
    let e = c.remove-spot.result in
    let begun : has_spot c.args.slot xs ≡ true = ap (λ (z : Table). has_spot c.args.slot z.spots) c.self.view_is ∙ c.requires.begun in
    let found : c.place_of-i.result ≡ place c.args.slot xs = cc in
    let is : e ≡ get_or xs c.place_of-i.result e = c.remove-spot.ensures.value in
    let here = ap (λ (z : Table). Rattle.acn_fill.specs.Table.spot_of c.args.slot z.spots) (sym c.self.view_is) ∙ spot-here c.args.slot xs c.place_of-i.result e begun found is in
    let fits : FitsSigned w128 e.least = search rules in
    λ set wanted k. rw (to_z-of_z w128 e.least fits) ((kept_at set wanted c.args.slot old.spots old.avoided e here k).keeps.answer)

pub returns-clause-ended : goal.returns-clause-ended
returns-clause-ended g c =
    let xs = c.self.inside.spots.items in
    let begun : has_spot c.args.slot xs ≡ true = ap (λ (z : Table). has_spot c.args.slot z.spots) c.self.view_is ∙ c.requires.begun in
    let found : c.place_of-i.result ≡ place c.args.slot xs = cc in
    less_ended xs c.remove-spot.new.self.items c.args.slot c.place_of-i.result c.self.invariant.1 begun found c.remove-spot.ensures.items

pub returns-clause-others : goal.returns-clause-others
returns-clause-others g c =
    let old = c.args.self.now in
    let xs = c.self.inside.spots.items in
    let i = c.place_of-i.result in
    let same : xs ≡ old.spots = ap (λ (z : Table). z.spots) c.self.view_is in
    let found' : i ≡ place c.args.slot xs = cc in
    less_others old _ c.args.slot i c.requires.begun (found' ∙ ap (place c.args.slot) same)
    (c.remove-spot.ensures.items ∙ ap (λ z. remove z i) same) (c.purge.ensures ∙ ap (λ (z : Table). Rattle.acn_fill.specs.Table.purged c.args.slot z.avoided) c.self.view_is)

pub returns-clause-rest : goal.returns-clause-rest
returns-clause-rest g c =
    let old = c.args.self.now in
    let xs = c.self.inside.spots.items in
    let i = c.place_of-i.result in
    let same : xs ≡ old.spots = ap (λ (z : Table). z.spots) c.self.view_is in
    let found' : i ≡ place c.args.slot xs = cc in
    less_rest old _ c.args.slot i (ap length (sym (ap (λ (z : Table). z.gaps) c.self.view_is)) ∙ (c.self.invariant.0 ∙ ap length same)) c.requires.begun (found' ∙ ap (place c.args.slot) same)
    (c.remove-spot.ensures.items ∙ ap (λ z. remove z i) same) (c.release-hole.ensures.rest ∙ ap (λ (z : Table). remove z.gaps i) c.self.view_is)

pub returns-clause-gaps : goal.returns-clause-gaps
returns-clause-gaps g c =
    let old = c.args.self.now in
    let xs = c.self.inside.spots.items in
    let i = c.place_of-i.result in
    let same : xs ≡ old.spots = ap (λ (z : Table). z.spots) c.self.view_is in
    let found' : i ≡ place c.args.slot xs = cc in
    c.release-hole.ensures.rest ∙ (ap (λ (z : Table). remove z.gaps i) c.self.view_is ∙ ap (remove old.gaps) (found' ∙ ap (place c.args.slot) same))

pub returns-clause-few : goal.returns-clause-few
returns-clause-few g c =
    let old = c.args.self.now in
    let same : c.self.inside.spots.items ≡ old.spots = ap (λ (z : Table). z.spots) c.self.view_is in
    let found' : c.place_of-i.result ≡ place c.args.slot c.self.inside.spots.items = cc in
    less_few old.spots c.remove-spot.new.self.items c.args.slot c.place_of-i.result c.requires.begun (found' ∙ ap (place c.args.slot) same) (c.remove-spot.ensures.items ∙ ap (λ z. remove z c.place_of-i.result) same)

pub returns-clause-slots : goal.returns-clause-slots
returns-clause-slots g c =
    let xs = c.self.inside.spots.items in
    let begun : has_spot c.args.slot xs ≡ true = ap (λ (z : Table). has_spot c.args.slot z.spots) c.self.view_is ∙ c.requires.begun in
    let found : c.place_of-i.result ≡ place c.args.slot xs = cc in
    less_slots xs c.remove-spot.new.self.items c.args.slot c.place_of-i.result begun found c.remove-spot.ensures.items ∙ ap (λ (z : Table). without c.args.slot z.spots) c.self.view_is
