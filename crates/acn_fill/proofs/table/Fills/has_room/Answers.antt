use Rattle.std.proofs.Common.{◌≡◌, ◌≤◌, List, length, get_or, sym, ap, ◌∙◌, subst}
use Rattle.acn_fill.specs.declared.spot.Spot.{Spot}
use Rattle.acn_fill.specs.Table.{Table, Clean, AreFew, place}
use Rattle.acn_fill.proofs.Spots.{spot-here}
use Rattle.acn_fill.proofs.Few.{room_short, room_fixed, no_room_here, no_room_at_all, full_here, full_all}
use Rattle.acn_fill.proofs.table.Fills.has_room.Goals as goal

pub returns-then-pool-lt-MOST_AVOIDED-clause-room : goal.returns-then-pool-lt-MOST_AVOIDED-clause-room
returns-then-pool-lt-MOST_AVOIDED-clause-room g c =
    let pool = c.as_slice-pool.ensures.value ∙ ap (λ (z : Table). z.avoided) c.self.view_is in
    λ _. room_short _ c.args.self.now c.args.slot c.args.k.now c.as_slice-pool.result.now pool c.if-pool.true c.if-pool-lt-MOST_AVOIDED.true

pub returns-then-spot-clause-room : goal.returns-then-spot-clause-room
returns-then-spot-clause-room g c =
    let spots : c.as_slice-spots.result.now ≡ c.args.self.now.spots = c.as_slice-spots.ensures.value ∙ ap (λ (z : Table). z.spots) c.self.view_is in
    let e = c.index-spots-i.result in
    let found : c.place_of-i.result ≡ place c.args.slot c.as_slice-spots.result.now = cc in
    let is : e ≡ get_or c.as_slice-spots.result.now c.place_of-i.result e = cc in
    let here = spot-here c.args.slot c.args.self.now.spots c.place_of-i.result e c.requires.begun (found ∙ ap (place c.args.slot) spots) (is ∙ ap (λ z. get_or z c.place_of-i.result e) spots) in
    λ _. room_fixed _ c.args.self.now c.args.slot c.args.k.now e here c.if-spot.true

pub returns-then-pool-2-clause-full : goal.returns-then-pool-2-clause-full
returns-then-pool-2-clause-full g c =
    let pool = c.as_slice-pool.ensures.value ∙ ap (λ (z : Table). z.avoided) c.self.view_is in
    let spots : c.as_slice-spots.result.now ≡ c.args.self.now.spots = c.as_slice-spots.ensures.value ∙ ap (λ (z : Table). z.spots) c.self.view_is in
    let e = c.index-spots-i.result in
    let found : c.place_of-i.result ≡ place c.args.slot c.as_slice-spots.result.now = cc in
    let is : e ≡ get_or c.as_slice-spots.result.now c.place_of-i.result e = cc in
    let here = spot-here c.args.slot c.args.self.now.spots c.place_of-i.result e c.requires.begun (found ∙ ap (place c.args.slot) spots) (is ∙ ap (λ z. get_or z c.place_of-i.result e) spots) in
    let few = subst AreFew (ap (λ (z : Table). z.avoided) c.self.view_is) c.self.invariant.3 in
    λ l _. full_here g.row.A c.args.self.now c.args.slot c.args.k.now e here c.if-spot.false few c.as_slice-pool.result.now pool (sym (c.if-is_avoided.ensures {u = tt})) c.count_avoided.result c.count_avoided.ensures l

pub returns-else-pool-2-clause-full : goal.returns-else-pool-2-clause-full
returns-else-pool-2-clause-full g c =
    let pool = c.as_slice-pool.ensures.value ∙ ap (λ (z : Table). z.avoided) c.self.view_is in
    let same = ap (λ (z : Table). z.spots) c.self.view_is in
    let spots : c.as_slice-spots.result.now ≡ c.args.self.now.spots = c.as_slice-spots.ensures.value ∙ same in
    let e = c.index-spots-i.result in
    let found : c.place_of-i.result ≡ place c.args.slot c.as_slice-spots.result.now = cc in
    let is : e ≡ get_or c.as_slice-spots.result.now c.place_of-i.result e = cc in
    let here = spot-here c.args.slot c.args.self.now.spots c.place_of-i.result e c.requires.begun (found ∙ ap (place c.args.slot) spots) (is ∙ ap (λ z. get_or z c.place_of-i.result e) spots) in
    let few = subst AreFew (ap (λ (z : Table). z.avoided) c.self.view_is) c.self.invariant.3 in
    let clean : Clean c.args.self.now.spots c.args.self.now.avoided = subst (λ (z : Table). Clean z.spots z.avoided) c.self.view_is c.self.invariant.2 in
    let within : length c.args.self.now.spots ≤ g.row.S = subst (λ (z : List Spot). length z ≤ g.row.S) spots c.as_slice-spots.ensures.fits in
    λ l r. full_all g.row.A c.args.self.now c.args.slot c.args.k.now e here c.if-spot.false few c.as_slice-pool.result.now pool (sym (c.if-is_avoided.ensures {u = tt})) g.row.S c.requires.begun clean within l r

pub returns-then-pool-2-clause-none : goal.returns-then-pool-2-clause-none
returns-then-pool-2-clause-none g c =
    let pool = c.as_slice-pool.ensures.value ∙ ap (λ (z : Table). z.avoided) c.self.view_is in
    let spots : c.as_slice-spots.result.now ≡ c.args.self.now.spots = c.as_slice-spots.ensures.value ∙ ap (λ (z : Table). z.spots) c.self.view_is in
    let e = c.index-spots-i.result in
    let found : c.place_of-i.result ≡ place c.args.slot c.as_slice-spots.result.now = cc in
    let is : e ≡ get_or c.as_slice-spots.result.now c.place_of-i.result e = cc in
    let here = spot-here c.args.slot c.args.self.now.spots c.place_of-i.result e c.requires.begun (found ∙ ap (place c.args.slot) spots) (is ∙ ap (λ z. get_or z c.place_of-i.result e) spots) in
    let few = subst AreFew (ap (λ (z : Table). z.avoided) c.self.view_is) c.self.invariant.3 in
    λ l. no_room_here g.row.A c.args.self.now c.args.slot c.args.k.now e here c.if-spot.false few c.as_slice-pool.result.now pool (sym (c.if-is_avoided.ensures {u = tt})) c.count_avoided.result c.count_avoided.ensures l

pub returns-else-pool-2-clause-none : goal.returns-else-pool-2-clause-none
returns-else-pool-2-clause-none g c =
    let pool = c.as_slice-pool.ensures.value ∙ ap (λ (z : Table). z.avoided) c.self.view_is in
    let spots : c.as_slice-spots.result.now ≡ c.args.self.now.spots = c.as_slice-spots.ensures.value ∙ ap (λ (z : Table). z.spots) c.self.view_is in
    let e = c.index-spots-i.result in
    let found : c.place_of-i.result ≡ place c.args.slot c.as_slice-spots.result.now = cc in
    let is : e ≡ get_or c.as_slice-spots.result.now c.place_of-i.result e = cc in
    let here = spot-here c.args.slot c.args.self.now.spots c.place_of-i.result e c.requires.begun (found ∙ ap (place c.args.slot) spots) (is ∙ ap (λ z. get_or z c.place_of-i.result e) spots) in
    let few = subst AreFew (ap (λ (z : Table). z.avoided) c.self.view_is) c.self.invariant.3 in
    λ l. no_room_at_all g.row.A c.args.self.now c.args.slot c.args.k.now e here c.if-spot.false few c.as_slice-pool.result.now pool (sym (c.if-is_avoided.ensures {u = tt})) l
