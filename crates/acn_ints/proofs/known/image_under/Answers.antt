use Rattle.std.proofs.Common.{ℤ, Some, ap, sym, ◌∙◌, arith, pos}
use Rattle.std.specs.Int.{w128}
use Rattle.std.proofs.lemmas.Int.{to_z-of_z}
use Rattle.acn_ints.proofs.Keys.{only_line}
use Rattle.acn_ints.proofs.known.image_under.Goals as goal

pub returns-then-is_on : goal.returns-then-is_on
returns-then-is_on c =
    let inside = c.if-at-lines.true in
    ap (λ (y : ℤ). Some y) (to_z-of_z w128 c.moved.result (record { sfits = c.moved.type_inv }) ∙ c.moved.ensures)
    ∙ only_line c.args.lines.now c.place_of-at.result (pos 0, pos 0, pos 0) c.args.x.now c.requires.apart (omega (arith, inside)) (sym c.is_on.ensures ∙ c.if-is_on.true)
