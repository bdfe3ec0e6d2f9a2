-- Names that are compared octet by octet, and the length of a text's characters: for the crates above that speak of texts and items.
use Rattle.std.proofs.Common.{◌≡◌, ℕ, ◌+◌, ◌*◌, Bool, true, List, [], ◌∷◌, length, refl, ap, ◌∙◌, arith, nat_eq, length-append}
use Rattle.std.proofs.lemmas.Bool.Decides.{nat_tests}
use Rattle.acn_grammar.specs.Asks.{same_name}
use Rattle.acn_grammar.specs.Spell.{CharactersPart}
use Rattle.acn_grammar.specs.declared.node.TextLeaf.{TextLeaf}
use Rattle.std.proofs.lemmas.Bool.{and_parts, eqb-true}

pub same_name-is : (xs ys : List ℕ) → same_name xs ys ≡ true → xs ≡ ys
same_name-is [] [] h = refl
same_name-is [] (y ∷ ys) h = cc
same_name-is (x ∷ xs) [] h = cc
same_name-is (x ∷ xs) (y ∷ ys) h =
    let f = and_parts (nat_eq x y) (same_name xs ys) h in
    let one = eqb-true x y f.0 in
    let rest = same_name-is xs ys f.1 in
    cc

pub same_name-refl : (n : List ℕ) → same_name n n ≡ true
same_name-refl [] = refl
same_name-refl (c ∷ cs) =
    let t : nat_eq c c ≡ true = grind (arith, nat_tests) in
    rw t (same_name-refl cs)

pub characters_long : (leaf : TextLeaf) (cs : List ℕ) (at : ℕ) (bs : List Bool) → CharactersPart leaf cs at bs → length bs ≡ leaf.width * length cs
characters_long leaf [] at bs e = ap length e ∙ omega arith
characters_long leaf (c ∷ cs) at bs t =
    let w = ap length t.whole in
    let l = length-append t.front t.back in
    let one = t.first.spelled.width in
    let two = characters_long leaf cs (at + length t.front) t.back t.second in
    omega arith
