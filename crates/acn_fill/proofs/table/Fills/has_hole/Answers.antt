use Rattle.std.proofs.Common.{◌≡◌, get_or, sym, ap, ◌∙◌, subst}
use Rattle.acn_fill.specs.Table.{Table, place, gap_at, have_holes, have_sets}
use Rattle.acn_fill.proofs.Spots.{spot-here}
use Rattle.acn_fill.proofs.Tied.{gap-kind, with_hole, without_hole}
use Rattle.acn_fill.proofs.table.Fills.has_hole.Goals as goal

pub returns-clause-hole : goal.returns-clause-hole
returns-clause-hole g c =
    let t = c.args.self.now in
    let spots : c.as_slice-spots.result.now ≡ t.spots = c.as_slice-spots.ensures.value ∙ ap (λ (z : Table). z.spots) c.self.view_is in
    let e = c.index-spots-i.result in
    let found : c.place_of-i.result ≡ place c.args.slot c.as_slice-spots.result.now = cc in
    let is : e ≡ get_or c.as_slice-spots.result.now c.place_of-i.result e = cc in
    let here = spot-here c.args.slot t.spots c.place_of-i.result e c.requires.begun (found ∙ ap (place c.args.slot) spots) (is ∙ ap (λ z. get_or z c.place_of-i.result e) spots) in
    let kind = gap-kind c.args.slot t.spots t.gaps e (subst (λ (z : Table). have_holes z.gaps ≡ have_sets z.spots) c.self.view_is c.self.invariant.4) here in
    λ h. with_hole (gap_at t c.args.slot) (kind.0, kind.1, kind.2 ∙ (sym c.has_set.ensures ∙ h))

pub returns-clause-none : goal.returns-clause-none
returns-clause-none g c =
    let t = c.args.self.now in
    let spots : c.as_slice-spots.result.now ≡ t.spots = c.as_slice-spots.ensures.value ∙ ap (λ (z : Table). z.spots) c.self.view_is in
    let e = c.index-spots-i.result in
    let found : c.place_of-i.result ≡ place c.args.slot c.as_slice-spots.result.now = cc in
    let is : e ≡ get_or c.as_slice-spots.result.now c.place_of-i.result e = cc in
    let here = spot-here c.args.slot t.spots c.place_of-i.result e c.requires.begun (found ∙ ap (place c.args.slot) spots) (is ∙ ap (λ z. get_or z c.place_of-i.result e) spots) in
    let kind = gap-kind c.args.slot t.spots t.gaps e (subst (λ (z : Table). have_holes z.gaps ≡ have_sets z.spots) c.self.view_is c.self.invariant.4) here in
    λ h. without_hole (gap_at t c.args.slot) (kind.0, kind.1, kind.2 ∙ (sym c.has_set.ensures ∙ h))
