-- Comments: where they end.
use Rattle.std.proofs.Common.{◌≡◌, ℕ, zero, suc, ◌+◌, ◌-◌, Bool, true, false, ◌&&◌, ◌==◌, cond, List, [], ◌∷◌, ◌++◌, length, Option, Some, None, refl, sym, ap, subst, ◌∙◌, arith, inl, inr}
use Rattle.std.proofs.lemmas.Bool.{and_parts, and_left, and_right, and_cases, cond_both, eqb-true}
use Rattle.std.proofs.Math.Dec.{eqb-suc-zero}
use Rattle.acn_lex.specs.Bytes.{is_line_end, starts_with}
use Rattle.acn_lex.specs.Scan.{comment_len, block_end, opens, closes}
use Rattle.acn_lex.specs.Lexes.{IsLine, at_line_end, at_hyphens, at_end, line_goes_on, starts_line_comment, IsBlock, ends, closes as shuts, opens as nests, block_goes_on}

-- the first byte, where a test finds it
pub first_byte : (c : ℕ) (bs : List ℕ) → starts_with c bs ≡ true → (more : List ℕ) × (bs ≡ c ∷ more)
first_byte c [] e = absurd cc
first_byte c (b ∷ bs) e = let k : b ≡ c = eqb-true b c e in (bs, rw k refl)

-- the piece in front of some bytes that a comment between hyphens and line ends takes
abbrev pub LineFront : List ℕ → ℕ → Type 0
LineFront bytes n = (piece rest : List ℕ) × (piece ++ rest ≡ bytes) × (length piece ≡ n) × IsLine piece rest

line_more : (b : ℕ) (bs : List ℕ) → is_line_end b ≡ false → (b == 45 && starts_with 45 bs) ≡ false → LineFront bs (comment_len bs) → LineFront (b ∷ bs) (suc (comment_len bs))
line_more b bs e h f = (b ∷ f.0, f.1, ap (λ xs. b ∷ xs) f.2, ap suc f.3, line_goes_on e (starts_less b f.0 f.1 bs f.2 h) f.4)
  where
    starts_less : (b : ℕ) (piece rest bs : List ℕ) → piece ++ rest ≡ bs → (b == 45 && starts_with 45 bs) ≡ false → (b == 45 && starts_with 45 piece) ≡ false
    starts_less b [] rest bs k h = and_right (b == 45) false refl
    starts_less b (c ∷ cs) rest bs k h = subst (λ xs. (b == 45 && starts_with 45 xs) ≡ false) (sym k) h

line_shut : (b : ℕ) (bs : List ℕ) → (b == 45 && starts_with 45 bs) ≡ true → LineFront (b ∷ bs) 2
line_shut b bs e =
    let t = and_parts (b == 45) (starts_with 45 bs) e in
    let k : b ≡ 45 = eqb-true b 45 t.0 in
    let f = first_byte 45 bs t.1 in
    (45 ∷ 45 ∷ [], f.0, cc (k, f.1), refl, at_hyphens)

pub line_found : (bs : List ℕ) → LineFront bs (comment_len bs)
line_found [] = ([], [], refl, refl, at_end)
line_found (b ∷ bs) =
    cond_both (is_line_end b) 1 (cond (b == 45 && starts_with 45 bs) 2 (suc (comment_len bs))) (LineFront (b ∷ bs))
    (λ e. (b ∷ [], bs, refl, refl, at_line_end e))
    (λ e. cond_both (b == 45 && starts_with 45 bs) 2 (suc (comment_len bs)) (LineFront (b ∷ bs)) (line_shut b bs) (λ h. line_more b bs e h (line_found bs)))

pub line_again : (bs rest : List ℕ) → IsLine bs rest → comment_len (bs ++ rest) ≡ length bs
line_again _ _ (at_line_end e) = rw e refl
line_again _ _ at_hyphens = refl
line_again _ _ at_end = refl
line_again (b ∷ bs) rest (line_goes_on e h more) = rw (e, starts_kept b bs rest h more) (ap suc (line_again bs rest more))
  where
    starts_kept : (b : ℕ) (bs rest : List ℕ) → starts_line_comment (b ∷ bs) ≡ false → IsLine bs rest → (b == 45 && starts_with 45 (bs ++ rest)) ≡ false
    starts_kept b [] [] h m = and_right (b == 45) false refl
    starts_kept b [] (c ∷ cs) h m = elim m [ ]
    starts_kept b (c ∷ cs) rest h m = h

-- the front of some bytes that a comment between slashes takes, where the first byte may be passed over
abbrev pub IsPassed : Bool → ℕ → List ℕ → Type 0
IsPassed false depth piece = IsBlock depth piece
IsPassed true depth [] = ⊥
IsPassed true depth (c ∷ cs) = IsBlock depth cs

abbrev pub BlockFront : Bool → ℕ → ℕ → List ℕ → ℕ → Type 0
BlockFront skip depth at bytes n = (piece rest : List ℕ) × (piece ++ rest ≡ bytes) × (at + length piece ≡ n) × IsPassed skip depth piece

abbrev pub BlockFound : Bool → ℕ → ℕ → List ℕ → Option ℕ → Type 0
BlockFound skip depth at bytes None = Unit {0}
BlockFound skip depth at bytes (Some n) = BlockFront skip depth at bytes n

grow : (skip : Bool) (depth at : ℕ) (bs : List ℕ) (o : Option ℕ) (to : Bool) (d b : ℕ) → ((piece rest : List ℕ) → piece ++ rest ≡ bs → IsPassed skip depth piece → IsPassed to d (b ∷ piece))
    → BlockFound skip depth (at + 1) bs o → BlockFound to d at (b ∷ bs) o
grow skip depth at bs None to d b f h = tt
grow skip depth at bs (Some n) to d b f h = (b ∷ h.0, h.1, ap (λ xs. b ∷ xs) h.2, omega (arith, h.3), f h.0 h.1 h.2 h.4)

-- a pair of bytes in front, of which the second is passed over
pair_in_front : (depth d b c : ℕ) (bs : List ℕ) → starts_with c bs ≡ true → ((cs : List ℕ) → IsBlock depth cs → IsBlock d (b ∷ c ∷ cs))
    → (piece rest : List ℕ) → piece ++ rest ≡ bs → IsPassed true depth piece → IsBlock d (b ∷ piece)
pair_in_front depth d b c bs e f [] rest k p = absurd p
pair_in_front depth d b c bs e f (x ∷ xs) rest k p =
    let g : x ≡ c = eqb-true x c (subst (λ ys. starts_with c ys ≡ true) (sym k) e) in
    subst (λ y. IsBlock d (b ∷ y ∷ xs)) (sym g) (f xs p)

nested : (depth b : ℕ) (bs cs : List ℕ) → b ≡ 47 → IsBlock (suc depth) cs → IsBlock depth (b ∷ 42 ∷ cs)
nested depth b bs cs k p = subst (λ x. IsBlock depth (x ∷ 42 ∷ cs)) (sym k) (nests p)

shut : (depth b : ℕ) (bs cs : List ℕ) → b ≡ 42 → IsBlock depth cs → IsBlock (suc depth) (b ∷ 47 ∷ cs)
shut depth b bs cs k p = subst (λ x. IsBlock (suc depth) (x ∷ 47 ∷ cs)) (sym k) (shuts p)

first_kept : (c : ℕ) (piece rest bs : List ℕ) → piece ++ rest ≡ bs → starts_with c bs ≡ false → starts_with c piece ≡ false
first_kept c [] rest bs k e = refl
first_kept c (x ∷ xs) rest bs k e = subst (λ ys. starts_with c ys ≡ false) (sym k) e

pair_kept : (b c d : ℕ) (piece rest bs : List ℕ) → piece ++ rest ≡ bs → (b == c && starts_with d bs) ≡ false → (b == c && starts_with d piece) ≡ false
pair_kept b c d piece rest bs k e = elim (and_cases (b == c) (starts_with d bs) e) [ inl h ↦ and_left (b == c) (starts_with d piece) h | inr h ↦ and_right (b == c) (starts_with d piece) (first_kept d piece rest bs k h) ]

shut_here : (depth at b : ℕ) (bs : List ℕ) → b ≡ 42 → (more : List ℕ) × (bs ≡ 47 ∷ more) → depth == 0 ≡ true → BlockFront false depth at (b ∷ bs) (at + 2)
shut_here depth at b bs k f z =
    let n : depth ≡ 0 = eqb-true depth 0 z in
    (42 ∷ 47 ∷ [], f.0, cc (k, f.1), refl, subst (λ d. IsBlock d (42 ∷ 47 ∷ [])) (sym n) ends)

shut_one : (depth b : ℕ) (bs cs : List ℕ) → b ≡ 42 → depth == 0 ≡ false → IsBlock (depth - 1) cs → IsBlock depth (b ∷ 47 ∷ cs)
shut_one zero b bs cs k z p = absurd cc
shut_one (suc d) b bs cs k z p = shut d b bs cs k (subst (λ n. IsBlock n cs) (omega arith) p)

pub block_found : (skip : Bool) (depth at : ℕ) (bs : List ℕ) → BlockFound skip depth at bs (block_end skip depth at bs)
block_found skip depth at [] = tt
block_found true depth at (b ∷ bs) = grow false depth at bs (block_end false depth (at + 1) bs) true depth b (λ piece rest k p. p) (block_found false depth (at + 1) bs)
block_found false depth at (b ∷ bs) =
    cond_both (opens b bs) _ _ (BlockFound false depth at (b ∷ bs))
    (λ e. let t = and_parts (b == 47) (starts_with 42 bs) e in
    grow true (depth + 1) at bs (block_end true (depth + 1) (at + 1) bs) false depth b
    (pair_in_front (depth + 1) depth b 42 bs t.1 (λ cs p. nested depth b bs cs (eqb-true b 47 t.0) (subst (λ n. IsBlock n cs) (omega arith) p)))
    (block_found true (depth + 1) (at + 1) bs))
    (λ e. cond_both (closes b bs) _ _ (BlockFound false depth at (b ∷ bs))
    (λ h. let t = and_parts (b == 42) (starts_with 47 bs) h in
    cond_both (depth == 0) _ _ (BlockFound false depth at (b ∷ bs))
    (λ z. shut_here depth at b bs (eqb-true b 42 t.0) (first_byte 47 bs t.1) z)
    (λ z. grow true (depth - 1) at bs (block_end true (depth - 1) (at + 1) bs) false depth b
    (pair_in_front (depth - 1) depth b 47 bs t.1 (λ cs p. shut_one depth b bs cs (eqb-true b 42 t.0) z p))
    (block_found true (depth - 1) (at + 1) bs)))
    (λ h. grow false depth at bs (block_end false depth (at + 1) bs) false depth b
    (λ piece rest k p. block_goes_on (pair_kept b 47 42 piece rest bs k e) (pair_kept b 42 47 piece rest bs k h) p)
    (block_found false depth (at + 1) bs)))

some_kept : (c : ℕ) (depth : ℕ) (bs rest : List ℕ) → IsBlock depth bs → starts_with c (bs ++ rest) ≡ starts_with c bs
some_kept c depth [] rest p = elim p [ ]
some_kept c depth (x ∷ xs) rest p = refl

pub block_again : (depth at : ℕ) (bs rest : List ℕ) → IsBlock depth bs → block_end false depth at (bs ++ rest) ≡ Some (at + length bs)
block_again _ at _ rest ends = refl
block_again _ at _ rest (shuts {depth = d} {bs = bs} p) =
    let n : at + 1 + 1 + length bs ≡ at + suc (suc (length bs)) = omega arith in
    let m : suc d - 1 ≡ d = omega arith in
    let z : suc d == 0 ≡ false = eqb-suc-zero d in
    rw (z, m) (block_again d (at + 1 + 1) bs rest p ∙ ap Some n)
block_again depth at _ rest (nests {bs = bs} p) =
    let n : at + 1 + 1 + length bs ≡ at + suc (suc (length bs)) = omega arith in
    let m : depth + 1 ≡ suc depth = omega arith in
    rw m (block_again (suc depth) (at + 1 + 1) bs rest p ∙ ap Some n)
block_again depth at _ rest (block_goes_on {b = b} {bs = bs} e h p) =
    let n : at + 1 + length bs ≡ at + suc (length bs) = omega arith in
    rw (some_kept 42 depth bs rest p, some_kept 47 depth bs rest p, e, h) (block_again depth (at + 1) bs rest p ∙ ap Some n)
