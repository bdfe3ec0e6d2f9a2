use Rattle.std.proofs.Common.{◌≡◌, true, arith, subst}
use Rattle.std.proofs.lemmas.Int.{ints, to_z-of_z}
use Rattle.std.specs.Int.{w128}
use Rattle.acn_grammar.specs.Leaves.{set_fine}
use Rattle.acn_tree.proofs.Drawn.{item_small}
use Rattle.acn_grammar.proofs.FineLeaves.{rules_of}
use Rattle.acn_tree.proofs.make_parts.number_value.Goals as goal

pub natural-requires-clause-least : goal.natural-requires-clause-least
natural-requires-clause-least c =
    let plain = to_z-of_z w128 c.number-x.result (record { sfits = c.number-x.type_inv }) in
    let l = c.args.leaf.now in
    let h = item_small l.coding l.items l.table l.set c.args.draw.now (subst (λ kind. set_fine kind l.coding l.items l.table l.set ≡ true) c.in-Enumerated.is (rules_of l c.requires.fine).set) in
    rw (plain, c.number-x.ensures.value) h.0

pub natural-requires-clause-small : goal.natural-requires-clause-small
natural-requires-clause-small c =
    let plain = to_z-of_z w128 c.number-x.result (record { sfits = c.number-x.type_inv }) in
    let l = c.args.leaf.now in
    let h = item_small l.coding l.items l.table l.set c.args.draw.now (subst (λ kind. set_fine kind l.coding l.items l.table l.set ≡ true) c.in-Enumerated.is (rules_of l c.requires.fine).set) in
    let few = c.requires.few in
    rw (plain, c.number-x.ensures.value) (let k = h.1 in omega (arith, ints))
