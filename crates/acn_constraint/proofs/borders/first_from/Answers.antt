use Rattle.std.proofs.Common.{◌≡◌, ◌<◌, ◌≤◌, ℕ, length, arith}
use Rattle.std.specs.Int.{w128}
use Rattle.std.proofs.lemmas.Int.{to_z-of_z}
use Rattle.acn_constraint.proofs.Borderline.{first_is}
use Rattle.acn_constraint.proofs.borders.first_from.Goals as goal

below : (m n : ℕ) → m ≤ n → (m ≡ n → ⊥) → m < n
below m n le differ = grind (arith, differ)

pub returns : goal.returns
returns c =
    let e = c.ending_below-first.ensures in
    rw (to_z-of_z w128 c.start_from.result (record { sfits = c.start_from.type_inv }), c.start_from.ensures)
    (first_is c.args.ranges.now c.args.x.now c.ending_below-first.result _ (below c.ending_below-first.result (length c.args.ranges.now) e.within c.if-first-ranges.false) c.requires e.below e.rest)
