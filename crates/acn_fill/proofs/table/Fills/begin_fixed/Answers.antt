use Rattle.std.specs.Prelude.{is_some}
use Rattle.std.proofs.lemmas.Int.{to_z-of_z}
use Rattle.std.specs.Int.{w128}
use Rattle.std.proofs.Common.{length, ◌≡◌, ◌++◌, ◌∷◌, [], None, false, refl, sym, ap, ◌∙◌, subst}
use Rattle.acn_grammar.specs.Asks.{Equal}
use Rattle.acn_fill.specs.Table.{Table, KeepsIn, has_spot}
use Rattle.acn_fill.specs.declared.spot.Spot.{Spot}
use Rattle.acn_fill.proofs.Own.{own_first}
use Rattle.acn_fill.proofs.Changes.{whole_push, has_of, keeps_push, push_others, push_own, push_rest, push_slots}
use Rattle.acn_fill.proofs.table.Fills.begin_fixed.Goals as goal

pub invariant_of-self : goal.invariant_of-self
invariant_of-self g c =
    let xs = c.self.inside.spots.items in
    let fresh : has_spot c.args.slot xs ≡ false = ap (λ (z : Table). has_spot c.args.slot z.spots) c.self.view_is ∙ c.requires.fresh in
    whole_push c.self.inside.holes c.skip.new.self None xs c.push.new.self.items c.fixed_spot.result c.self.inside.avoided.items c.skip.ensures c.push.ensures.items c.self.invariant
    (has_of c.fixed_spot.result.slot c.args.slot xs (ap (λ (z : Spot). z.slot) c.fixed_spot.ensures) fresh) (ap (λ (z : Spot). is_some z.set) (sym c.fixed_spot.ensures))

pub returns-clause-kept : goal.returns-clause-kept
returns-clause-kept g c =
    let xs = c.self.inside.spots.items in
    let fresh : has_spot c.args.slot xs ≡ false = ap (λ (z : Table). has_spot c.args.slot z.spots) c.self.view_is ∙ c.requires.fresh in
    λ set permitted.
    keeps_push set (Equal c.args.n ∷ []) c.args.slot xs c.push.new.self.items c.self.inside.avoided.items c.fixed_spot.result c.push.ensures.items fresh (ap (λ (z : Spot). z.slot) c.fixed_spot.ensures) c.self.invariant.2
    (subst (λ (z : Spot). KeepsIn set (Equal c.args.n ∷ []) z []) (sym c.fixed_spot.ensures) (record { permits = refl; keeps = rw (to_z-of_z w128 c.args.n (c.ranges.n)) (own_first set c.args.n permitted) }))

pub returns-clause-others : goal.returns-clause-others
returns-clause-others g c =
    push_others c.args.self.now _ c.fixed_spot.result c.args.slot
    (c.push.ensures.items ∙ ap (λ (z : Table). z.spots ++ c.fixed_spot.result ∷ []) c.self.view_is) (ap (λ (z : Table). z.avoided) c.self.view_is) (ap (λ (z : Spot). z.slot) c.fixed_spot.ensures)

pub returns-clause-slots : goal.returns-clause-slots
returns-clause-slots g c =
    push_slots c.args.self.now.spots c.push.new.self.items c.fixed_spot.result c.args.slot
    (c.push.ensures.items ∙ ap (λ (z : Table). z.spots ++ c.fixed_spot.result ∷ []) c.self.view_is) (ap (λ (z : Spot). z.slot) c.fixed_spot.ensures)

pub returns-clause-own : goal.returns-clause-own
returns-clause-own g c =
    push_own c.args.self.now (record { spots = c.push.new.self.items; gaps = c.skip.new.self; avoided = c.self.inside.avoided.items }) c.fixed_spot.result c.args.slot None (ap length (sym (ap (λ (z : Table). z.gaps) c.self.view_is)) ∙ (c.self.invariant.0 ∙ ap length (ap (λ (z : Table). z.spots) c.self.view_is))) c.requires.fresh (c.push.ensures.items ∙ ap (λ (z : Table). z.spots ++ c.fixed_spot.result ∷ []) c.self.view_is) (c.skip.ensures ∙ ap (λ (z : Table). z.gaps ++ None ∷ []) c.self.view_is) (ap (λ (z : Spot). z.slot) c.fixed_spot.ensures)

pub returns-clause-rest : goal.returns-clause-rest
returns-clause-rest g c =
    push_rest c.args.self.now _ c.fixed_spot.result c.args.slot None (ap length (sym (ap (λ (z : Table). z.gaps) c.self.view_is)) ∙ (c.self.invariant.0 ∙ ap length (ap (λ (z : Table). z.spots) c.self.view_is))) (c.push.ensures.items ∙ ap (λ (z : Table). z.spots ++ c.fixed_spot.result ∷ []) c.self.view_is) (c.skip.ensures ∙ ap (λ (z : Table). z.gaps ++ None ∷ []) c.self.view_is) (ap (λ (z : Spot). z.slot) c.fixed_spot.ensures)
