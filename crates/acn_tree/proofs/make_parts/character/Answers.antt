use Rattle.std.proofs.Common.{arith, ℤ, pos, ◌≤ℤ◌, nat_abs, Fits, w8}
use Rattle.std.proofs.lemmas.Int.{ints, to_z-of_z}
use Rattle.std.specs.Int.{w128}
use Rattle.acn_tree.proofs.Drawn.{alphabet_is, character_small}
use Rattle.acn_tree.proofs.make_parts.character.Goals as goal

pub natural-requires-clause-least : goal.natural-requires-clause-least
natural-requires-clause-least c =
    let plain = to_z-of_z w128 c.number.result (record { sfits = c.number.type_inv }) in
    let h = character_small c.args.leaf.now.alphabet c.args.draw.now (alphabet_is c.args.leaf.now c.requires).1 in
    rw (plain, c.number.ensures.value) h.0

pub natural-requires-clause-small : goal.natural-requires-clause-small
natural-requires-clause-small c =
    let plain = to_z-of_z w128 c.number.result (record { sfits = c.number.type_inv }) in
    let h = character_small c.args.leaf.now.alphabet c.args.draw.now (alphabet_is c.args.leaf.now c.requires).1 in
    rw (plain, c.number.ensures.value) (let k = h.1 in omega (arith, ints))

pub overflow_cast-result : goal.overflow_cast-result
overflow_cast-result c =
    let plain = to_z-of_z w128 c.number.result (record { sfits = c.number.type_inv }) in
    let h = character_small c.args.leaf.now.alphabet c.args.draw.now (alphabet_is c.args.leaf.now c.requires).1 in
    rw (c.natural.ensures, plain, c.number.ensures.value) (small_octet _ h.0 h.1)
  where
    small_octet : (x : ℤ) → pos 0 ≤ℤ x → x ≤ℤ pos 127 → Fits w8 (nat_abs x)
    small_octet x h k = omega (arith, ints)

pub number-requires : goal.number-requires
number-requires c = (alphabet_is c.args.leaf.now c.requires).1.some
