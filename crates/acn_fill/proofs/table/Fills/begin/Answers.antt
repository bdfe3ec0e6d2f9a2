use Rattle.std.proofs.Common.{length, ◌≡◌, ◌++◌, ◌∷◌, [], Some, false, sym, ap, ◌∙◌}
use Rattle.acn_fill.specs.Table.{Table, has_spot}
use Rattle.acn_fill.proofs.Changes.{whole_push, has_of, keeps_push, push_others, push_own, push_rest, push_slots}
use Rattle.acn_fill.proofs.table.Fills.begin.Goals as goal

pub invariant_of-self : goal.invariant_of-self
invariant_of-self g c =
    let xs = c.self.inside.spots.items in
    let fresh : has_spot c.args.slot xs ≡ false = ap (λ (z : Table). has_spot c.args.slot z.spots) c.self.view_is ∙ c.requires.fresh in
    whole_push c.self.inside.holes c.keep.new.self (Some c.args.hole) xs c.push.new.self.items c.first_spot.result c.self.inside.avoided.items c.keep.ensures c.push.ensures.items c.self.invariant
    (has_of c.first_spot.result.slot c.args.slot xs c.first_spot.ensures.slot fresh) (sym c.first_spot.ensures.hole)

pub returns-clause-kept : goal.returns-clause-kept
returns-clause-kept g c =
    let xs = c.self.inside.spots.items in
    let fresh : has_spot c.args.slot xs ≡ false = ap (λ (z : Table). has_spot c.args.slot z.spots) c.self.view_is ∙ c.requires.fresh in
    keeps_push c.args.set.now [] c.args.slot xs c.push.new.self.items c.self.inside.avoided.items c.first_spot.result c.push.ensures.items fresh c.first_spot.ensures.slot c.self.invariant.2 c.first_spot.ensures.kept

pub returns-clause-others : goal.returns-clause-others
returns-clause-others g c =
    push_others c.args.self.now _ c.first_spot.result c.args.slot
    (c.push.ensures.items ∙ ap (λ (z : Table). z.spots ++ c.first_spot.result ∷ []) c.self.view_is) (ap (λ (z : Table). z.avoided) c.self.view_is) c.first_spot.ensures.slot

pub returns-clause-slots : goal.returns-clause-slots
returns-clause-slots g c =
    push_slots c.args.self.now.spots c.push.new.self.items c.first_spot.result c.args.slot
    (c.push.ensures.items ∙ ap (λ (z : Table). z.spots ++ c.first_spot.result ∷ []) c.self.view_is) c.first_spot.ensures.slot

pub returns-clause-own : goal.returns-clause-own
returns-clause-own g c =
    push_own c.args.self.now (record { spots = c.push.new.self.items; gaps = c.keep.new.self; avoided = c.self.inside.avoided.items }) c.first_spot.result c.args.slot (Some c.args.hole) (ap length (sym (ap (λ (z : Table). z.gaps) c.self.view_is)) ∙ (c.self.invariant.0 ∙ ap length (ap (λ (z : Table). z.spots) c.self.view_is))) c.requires.fresh (c.push.ensures.items ∙ ap (λ (z : Table). z.spots ++ c.first_spot.result ∷ []) c.self.view_is) (c.keep.ensures ∙ ap (λ (z : Table). z.gaps ++ (Some c.args.hole) ∷ []) c.self.view_is) c.first_spot.ensures.slot

pub returns-clause-rest : goal.returns-clause-rest
returns-clause-rest g c =
    push_rest c.args.self.now _ c.first_spot.result c.args.slot (Some c.args.hole) (ap length (sym (ap (λ (z : Table). z.gaps) c.self.view_is)) ∙ (c.self.invariant.0 ∙ ap length (ap (λ (z : Table). z.spots) c.self.view_is))) (c.push.ensures.items ∙ ap (λ (z : Table). z.spots ++ c.first_spot.result ∷ []) c.self.view_is) (c.keep.ensures ∙ ap (λ (z : Table). z.gaps ++ (Some c.args.hole) ∷ []) c.self.view_is) c.first_spot.ensures.slot
