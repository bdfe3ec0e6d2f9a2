use Rattle.std.proofs.Common.{rules, pos, Bool, refl, sym, subst, to_z, of_z}
use Rattle.std.proofs.lemmas.Int.{to_z-of_z}
use Rattle.std.specs.Int.{w128}
use Rattle.acn_pack.specs.Words.{IsNumberAt}
use Rattle.acn_pack.proofs.Gathered.{told}
use Rattle.acn_pack.proofs.word.field_code.Goals as goal

pub returns-then-not-piece-clause-code : goal.returns-then-not-piece-clause-code
returns-then-not-piece-clause-code c =
    let piece = c.args.piece.now in
    let number : IsNumberAt piece.is_component c.args.places.now c.args.next (pos 0) = search rules in
    told piece.cut c.code_of_zero.result piece.is_component c.args.places.now c.args.next (pos 0) (pos 0) refl number c.code_of_zero.ensures.code

pub returns-clause-code : goal.returns-clause-code
returns-clause-code c =
    let piece = c.args.piece.now in
    let x = c.in_ok-x.x in
    let number = subst (λ (b : Bool). IsNumberAt b c.args.places.now c.args.next x) (sym c.if-not-piece.false) c.in_ok-x.ensures in
    told piece.cut c.code_of.result piece.is_component c.args.places.now c.args.next x (to_z w128 (of_z w128 x)) (to_z-of_z w128 x (record { sfits = search rules })) number c.code_of.ensures.code
