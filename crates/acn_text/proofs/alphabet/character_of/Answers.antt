use Rattle.std.proofs.Common.{◌≡◌, ◌∙◌, ap, sym, arith, true, pos}
use Rattle.std.specs.Prelude.{Some, None}
use Rattle.std.specs.Int.{w128}
use Rattle.std.proofs.lemmas.Int.{ints, to_z-of_z}
use Rattle.acn_num.specs.Ranges.{nth, has}
use Rattle.acn_text.proofs.Places.{by_place, no_place, by_number}
use Rattle.acn_text.proofs.alphabet.character_of.Goals as goal
use Rattle.acn_grammar.proofs.TextRules.{text_rules}

pub overflow_cast-result : goal.overflow_cast-result
overflow_cast-result c =
    let e : nth c.args.leaf.now.alphabet c.args.v ≡ Some c.in-Some.x = ap (nth c.args.leaf.now.alphabet) (sym c.from.ensures) ∙ (sym c.nth.ensures ∙ c.in-Some.is) in
    let p = by_place c.args.leaf.now (text_rules c.args.leaf.now c.requires.fine) c.args.v c.in-Some.x c.if-leaf.true e in
    let is = p.1 in
    let small = p.2 in
    rw (to_z-of_z w128 c.in-Some.x (omega (arith, ints)), is) (tt, omega (arith, small))

pub returns-in-None : goal.returns-in-None
returns-in-None c =
    let e : nth c.args.leaf.now.alphabet c.args.v ≡ None = ap (nth c.args.leaf.now.alphabet) (sym c.from.ensures) ∙ (sym c.nth.ensures ∙ c.in-None.is) in
    no_place c.args.leaf.now (text_rules c.args.leaf.now c.requires.fine) c.args.v c.if-leaf.true e

pub overflow_cast-result-then-is_in : goal.overflow_cast-result-then-is_in
overflow_cast-result-then-is_in c =
    let p : has c.args.leaf.now.alphabet (pos c.args.v) ≡ true = sym c.is_in.ensures ∙ c.if-is_in.true in
    let b = (by_number c.args.leaf.now (text_rules c.args.leaf.now c.requires.fine) c.args.v c.if-leaf.false p).0 in
    record { fits = omega (arith, b) }

pub returns-in-Some : goal.returns-in-Some
returns-in-Some c =
    let e : nth c.args.leaf.now.alphabet c.args.v ≡ Some c.in-Some.x = ap (nth c.args.leaf.now.alphabet) (sym c.from.ensures) ∙ (sym c.nth.ensures ∙ c.in-Some.is) in
    let p = by_place c.args.leaf.now (text_rules c.args.leaf.now c.requires.fine) c.args.v c.in-Some.x c.if-leaf.true e in
    let is = p.1 in
    let small = p.2 in
    rw (to_z-of_z w128 c.in-Some.x (omega (arith, ints)), is) p.3
