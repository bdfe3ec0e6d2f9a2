-- Bits that are cut as pieces say, each cut standing for a meaning: positions play no part.
use Rattle.std.proofs.Common.{◌≡◌, ℕ, ◌+◌, Bool, true, false, List, [], ◌∷◌, ◌++◌, length, take, drop, refl, sym, ap, ◌∙◌, arith, subst, nat_eq, append_assoc, append-nil, length-append}
use Rattle.std.specs.List.{AllZip}
use Rattle.std.proofs.Math.Seq.{take-append_seam, drop-append_seam}
use Rattle.std.proofs.lemmas.Bool.{eqb-true}
use Rattle.acn_grammar.specs.Code.{Mode}
use Rattle.acn_grammar.specs.Spell.{Part, ◌then◌}
use Rattle.acn_pieces.specs.declared.piece.Piece.{Piece}
use Rattle.acn_pieces.specs.declared.piece.PieceKind.{PieceKind}
use Rattle.acn_pieces.specs.Pieces.{part, piece_bits, Joined}
use Rattle.acn_piece_laws.specs.Meanings.{Meaning, Means, meant}

-- the bits are those of the pieces, one behind another, and each stands for its meaning
abbrev pub Cut : Mode → List Bool → List Piece → List Meaning → Type 0
Cut mode bs [] [] = bs ≡ []
Cut mode bs [] (m ∷ ms) = ⊥
Cut mode bs (p ∷ ps) [] = ⊥
Cut mode bs (p ∷ ps) (m ∷ ms) = (front : List Bool) × (back : List Bool) × (bs ≡ front ++ back) × (length front ≡ p.count) × Means mode m front × Cut mode back ps ms

join : (mode : Mode) (a b : List Bool) (ps qs : List Piece) (ms ns : List Meaning) → Cut mode a ps ms → Cut mode b qs ns → Cut mode (a ++ b) (ps ++ qs) (ms ++ ns)
join mode a b [] qs [] ns h k = subst (λ x. Cut mode (x ++ b) qs ns) (sym h) k
join mode a b [] qs (m ∷ ms) ns h k = absurd h
join mode a b (p ∷ ps) qs [] ns h k = absurd h
join mode a b (p ∷ ps) qs (m ∷ ms) ns h k = (h.0, h.1 ++ b, ap (λ x. x ++ b) h.2 ∙ append_assoc h.0 h.1 b, h.3, h.4, join mode h.1 b ps qs ms ns h.5 k)

-- of one part behind another
pub both : (mode : Mode) {P Q : Part} {at : ℕ} {bs : List Bool} (t : (P then Q) at bs) (ps qs : List Piece) (ms ns : List Meaning) → Cut mode t.front ps ms → Cut mode t.back qs ns → Cut mode bs (ps ++ qs) (ms ++ ns)
both mode t ps qs ms ns h k = subst (λ x. Cut mode x (ps ++ qs) (ms ++ ns)) (sym t.whole) (join mode t.front t.back ps qs ms ns h k)

no_bits : (bs : List Bool) → length bs ≡ 0 → bs ≡ []
no_bits [] e = refl
no_bits (b ∷ bs) e = absurd (omega arith)

-- of one part
pub one : (mode : Mode) (path : List ℕ) (kind : PieceKind) (at count : ℕ) (m : Meaning) (bs : List Bool) → length bs ≡ count → Means mode m bs → Cut mode bs (part path kind at count) (meant count m)
one mode path kind at count m bs l h = by (nat_eq count 0) refl
  where
    by : (t : Bool) → nat_eq count 0 ≡ t → Cut mode bs (part path kind at count) (meant count m)
    by true e = rw e (no_bits bs (l ∙ eqb-true count 0 e))
    by false e = rw e (bs, [], sym (append-nil bs), l, h, refl)

-- they are as many as the pieces have
pub long : (mode : Mode) (bs : List Bool) (ps : List Piece) (ms : List Meaning) (from to : ℕ) → Cut mode bs ps ms → Joined from to ps → from + length bs ≡ to
long mode bs [] [] from to h j = omega (arith, ap length h, j)
long mode bs [] (m ∷ ms) from to h j = absurd h
long mode bs (p ∷ ps) [] from to h j = absurd h
long mode bs (p ∷ ps) (m ∷ ms) from to h j = (let rest = long mode h.1 ps ms (from + p.count) to h.5 j.2 in omega (arith, ap length h.2, length-append h.0 h.1, h.3, rest))

-- where the pieces are joined, each stands for its meaning at its place
pub told : (mode : Mode) (bs : List Bool) (ps : List Piece) (ms : List Meaning) (from to : ℕ) → Cut mode bs ps ms → Joined from to ps → (before behind : List Bool) → length before ≡ from → AllZip (λ p m. Means mode m (piece_bits (before ++ (bs ++ behind)) p)) ps ms
told mode bs [] [] from to h j before behind e = tt
told mode bs [] (m ∷ ms) from to h j before behind e = absurd h
told mode bs (p ∷ ps) [] from to h j before behind e = absurd h
told mode bs (p ∷ ps) (m ∷ ms) from to h j before behind e =
    (subst (λ x. Means mode m x) (sym here) h.4, subst (λ input. AllZip (λ p m. Means mode m (piece_bits input p)) ps ms) whole (told mode h.1 ps ms (from + p.count) to h.5 j.2 (before ++ h.0) behind (omega (arith, length-append before h.0, h.3, e))))
  where
    here : take p.count (drop p.at (before ++ (bs ++ behind))) ≡ h.0
    here =
        ap (λ n. take p.count (drop n (before ++ (bs ++ behind)))) (j.0 ∙ sym e)
        ∙ (ap (λ x. take p.count x) (drop-append_seam before (bs ++ behind))
        ∙ (ap (λ x. take p.count (x ++ behind)) h.2
        ∙ (ap (λ x. take p.count x) (append_assoc h.0 h.1 behind)
        ∙ (ap (λ n. take n (h.0 ++ (h.1 ++ behind))) (sym h.3) ∙ take-append_seam h.0 (h.1 ++ behind)))))

    whole : (before ++ h.0) ++ (h.1 ++ behind) ≡ before ++ (bs ++ behind)
    whole = append_assoc before h.0 (h.1 ++ behind) ∙ ap (λ x. before ++ x) (sym (append_assoc h.0 h.1 behind) ∙ ap (λ x. x ++ behind) (sym h.2))
