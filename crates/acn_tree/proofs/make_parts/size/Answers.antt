use Rattle.std.proofs.Common.{arith}
use Rattle.std.proofs.lemmas.Int.{ints, to_z-of_z}
use Rattle.std.specs.Int.{w128}
use Rattle.acn_tree.proofs.Drawn.{size_small}
use Rattle.acn_tree.proofs.make_parts.size.Goals as goal

pub natural-requires-clause-least : goal.natural-requires-clause-least
natural-requires-clause-least c =
    let plain = to_z-of_z w128 c.at_place.result (record { sfits = c.at_place.type_inv }) in
    let h = size_small c.args.sizes.now c.args.draw.now c.requires in
    rw (plain, c.at_place.ensures, c.pick-place.ensures.number, c.min.ensures, c.count.ensures) h.0

pub natural-requires-clause-small : goal.natural-requires-clause-small
natural-requires-clause-small c =
    let plain = to_z-of_z w128 c.at_place.result (record { sfits = c.at_place.type_inv }) in
    let h = size_small c.args.sizes.now c.args.draw.now c.requires in
    rw (plain, c.at_place.ensures, c.pick-place.ensures.number, c.min.ensures, c.count.ensures) (let k = h.1 in omega (arith, ints))
