use Rattle.std.proofs.Common.{◌≡◌, length, true, remove, sym, ap, ◌∙◌}
use Rattle.acn_fill.specs.Table.{Table, has_spot, place, avoided_on, without}
use Rattle.acn_fill.proofs.Spots.{remove-length}
use Rattle.acn_fill.proofs.Changes.{whole_less, less_ended, less_others, less_rest, less_slots}
use Rattle.acn_fill.proofs.table.Fills.finish_fixed.Goals as goal

pub invariant_of-self : goal.invariant_of-self
invariant_of-self g c =
    let xs = c.self.inside.spots.items in
    let begun : has_spot c.args.slot xs ≡ true = ap (λ (z : Table). has_spot c.args.slot z.spots) c.self.view_is ∙ c.requires.begun in
    let found : c.place_of-i.result ≡ place c.args.slot xs = cc in
    whole_less c.self.inside.holes c.unskip.new.self xs c.remove.new.self.items c.self.inside.avoided.items c.purge.new.pool.items c.args.slot c.place_of-i.result c.self.invariant begun found
    c.remove.ensures.items c.unskip.ensures c.purge.ensures (remove-length c.args.slot c.place_of-i.result xs c.self.inside.holes c.unskip.new.self begun found c.self.invariant.0 c.unskip.ensures)

pub returns-clause-ended : goal.returns-clause-ended
returns-clause-ended g c =
    let xs = c.self.inside.spots.items in
    let begun : has_spot c.args.slot xs ≡ true = ap (λ (z : Table). has_spot c.args.slot z.spots) c.self.view_is ∙ c.requires.begun in
    let found : c.place_of-i.result ≡ place c.args.slot xs = cc in
    less_ended xs c.remove.new.self.items c.args.slot c.place_of-i.result c.self.invariant.1 begun found c.remove.ensures.items

pub returns-clause-others : goal.returns-clause-others
returns-clause-others g c =
    let old = c.args.self.now in
    let xs = c.self.inside.spots.items in
    let i = c.place_of-i.result in
    let same : xs ≡ old.spots = ap (λ (z : Table). z.spots) c.self.view_is in
    let found' : i ≡ place c.args.slot xs = cc in
    less_others old _ c.args.slot i c.requires.begun (found' ∙ ap (place c.args.slot) same)
    (c.remove.ensures.items ∙ ap (λ z. remove z i) same) (c.purge.ensures ∙ ap (λ (z : Table). Rattle.acn_fill.specs.Table.purged c.args.slot z.avoided) c.self.view_is)

pub returns-clause-rest : goal.returns-clause-rest
returns-clause-rest g c =
    let old = c.args.self.now in
    let xs = c.self.inside.spots.items in
    let i = c.place_of-i.result in
    let same : xs ≡ old.spots = ap (λ (z : Table). z.spots) c.self.view_is in
    let found' : i ≡ place c.args.slot xs = cc in
    less_rest old _ c.args.slot i (ap length (sym (ap (λ (z : Table). z.gaps) c.self.view_is)) ∙ (c.self.invariant.0 ∙ ap length same)) c.requires.begun (found' ∙ ap (place c.args.slot) same)
    (c.remove.ensures.items ∙ ap (λ z. remove z i) same) (c.unskip.ensures ∙ ap (λ (z : Table). remove z.gaps i) c.self.view_is)

pub returns-clause-gaps : goal.returns-clause-gaps
returns-clause-gaps g c =
    let old = c.args.self.now in
    let xs = c.self.inside.spots.items in
    let i = c.place_of-i.result in
    let same : xs ≡ old.spots = ap (λ (z : Table). z.spots) c.self.view_is in
    let found' : i ≡ place c.args.slot xs = cc in
    c.unskip.ensures ∙ (ap (λ (z : Table). remove z.gaps i) c.self.view_is ∙ ap (remove old.gaps) (found' ∙ ap (place c.args.slot) same))

pub returns-clause-slots : goal.returns-clause-slots
returns-clause-slots g c =
    let xs = c.self.inside.spots.items in
    let begun : has_spot c.args.slot xs ≡ true = ap (λ (z : Table). has_spot c.args.slot z.spots) c.self.view_is ∙ c.requires.begun in
    let found : c.place_of-i.result ≡ place c.args.slot xs = cc in
    less_slots xs c.remove.new.self.items c.args.slot c.place_of-i.result begun found c.remove.ensures.items ∙ ap (λ (z : Table). without c.args.slot z.spots) c.self.view_is
