-- Bytes are cut at line feeds in one way.
use Rattle.std.proofs.Common.{◌≡◌, ℕ, ◌<◌, ◌≤◌, ◌==◌, not, List, [], ◌∷◌, ◌++◌, length, subst, sym, ap, ◌∙◌, arith, length-append, append_assoc}
use Rattle.std.proofs.lemmas.Bool.{and_parts}
use Rattle.acn_stream.specs.Encoding.{IsEndedLine, AreLines}
use Rattle.acn_stream_laws.proofs.Pieces.{same_front, GoesOn, goes_on, one_list}
use Rattle.acn_supply.specs.Cutting.{IsOneLine}

-- a line feed isn't among the bytes of a line
no_feed : (b : ℕ) (line : List ℕ) → IsOneLine (b ∷ line) → b ≡ 10 → ⊥
no_feed b line one e = let feed : IsOneLine (10 ∷ line) = subst (λ (x : ℕ). IsOneLine (x ∷ line)) e one in cc

-- bytes that have no line feed lie inside the line
pub inside_line : (front line more rest : List ℕ) → IsOneLine front → front ++ more ≡ line ++ 10 ∷ rest → length front ≤ length line
inside_line [] line more rest one e = omega arith
inside_line (b ∷ front) [] more rest one e = absurd (no_feed b front one cc)
inside_line (b ∷ front) (x ∷ line) more rest one e =
    let tails : front ++ more ≡ line ++ 10 ∷ rest = cc in
    omega (arith, inside_line front line more rest (and_parts (not (b == 10)) _ one).1 tails)

-- two lines at one place are the same
pub same_line : (a b more rest : List ℕ) → IsOneLine a → IsOneLine b → a ++ 10 ∷ more ≡ b ++ 10 ∷ rest → a ≡ b
same_line a b more rest x y e =
    let long : length a ≡ length b = omega (arith, inside_line a b (10 ∷ more) rest x e, inside_line b a (10 ∷ rest) more y (sym e)) in
    same_front a b (10 ∷ more) (10 ∷ rest) long e

pub line_parts : (a b : List ℕ) (p q r s : List ℕ) → IsEndedLine a p → IsEndedLine b q → p ++ r ≡ q ++ s → (a ≡ b) × (p ≡ q)
line_parts a b p q r s h k e =
    let cut : a ++ 10 ∷ r ≡ b ++ 10 ∷ s = sym (append_assoc a (10 ∷ []) r) ∙ ap (λ (t : List ℕ). t ++ r) (sym h.whole) ∙ e ∙ ap (λ (t : List ℕ). t ++ s) k.whole ∙ append_assoc b (10 ∷ []) s in
    let same = same_line a b r s h.fits.one k.fits.one cut in
    (same, h.whole ∙ ap (λ (t : List ℕ). t ++ 10 ∷ []) same ∙ sym k.whole)

line_some : (line piece : List ℕ) → IsEndedLine line piece → 0 < length piece
line_some line piece h = omega (arith, ap length h.whole, length-append line (10 ∷ []))

pub one_cut : (ls others : List (List ℕ)) (bytes : List ℕ) → AreLines ls bytes → AreLines others bytes → others ≡ ls
one_cut ls others bytes h k = one_list IsEndedLine line_parts line_some ls others bytes h k

pub lines_on : (some_lines ls : List (List ℕ)) (front rest : List ℕ) → AreLines some_lines front → AreLines ls (front ++ rest) → GoesOn IsEndedLine some_lines ls rest
lines_on some_lines ls front rest h k = goes_on IsEndedLine line_parts line_some some_lines ls front rest h k
