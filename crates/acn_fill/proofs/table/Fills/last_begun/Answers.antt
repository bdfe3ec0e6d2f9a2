use Rattle.std.proofs.Common.{◌≡◌, ◌<◌, ◌-◌, length, get_or, List, ℕ, Option, Some, option_map, sym, ap, ◌∙◌, arith}
use Rattle.std.proofs.lemmas.Option.{slice_get-get_or}
use Rattle.acn_fill.specs.Table.{Table, has_spot, last_slot}
use Rattle.acn_fill.specs.declared.spot.Spot.{Spot}
use Rattle.acn_fill.proofs.Spots.{has_here}
use Rattle.acn_fill.proofs.table.Fills.last_begun.Goals as goal

pub returns-clause-begun : goal.returns-clause-begun
returns-clause-begun g c =
    let xs = c.as_slice-spots.result.now in
    let e = c.index-spots-count.result in
    let same : xs ≡ c.args.self.now.spots = c.as_slice-spots.ensures.value ∙ ap (λ (z : Table). z.spots) c.self.view_is in
    let inside : length xs - 1 < length xs = omega (arith, c.if-count-eq0.false) in
    let is : e ≡ get_or xs (length xs - 1) e = c.index-spots-count.is in
    sym (ap (λ z. has_spot z.slot c.args.self.now.spots) is) ∙ (ap (λ z. has_spot e.slot z) (sym same) ∙ has_here xs (length xs - 1) e inside is)

pub returns-clause-last : goal.returns-clause-last
returns-clause-last g c =
    let xs = c.as_slice-spots.result.now in
    let e = c.index-spots-count.result in
    let same : xs ≡ c.args.self.now.spots = c.as_slice-spots.ensures.value ∙ ap (λ (z : Table). z.spots) c.self.view_is in
    let inside : length xs - 1 < length xs = omega (arith, c.if-count-eq0.false) in
    sym (ap (option_map (λ (z : Spot). z.slot)) (slice_get-get_or xs (length xs - 1) e inside)) ∙ ap last_slot same
