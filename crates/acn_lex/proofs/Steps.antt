-- A step is what the rules say: what it finds is there, and what is there it finds.
use Rattle.std.proofs.Common.{◌≡◌, ℕ, zero, ◌+◌, true, false, ◌&&◌, ◌==◌, List, [], ◌∷◌, ◌++◌, length, drop, Option, Some, None, refl, sym, ap, subst, ◌∙◌, arith}
use Rattle.std.proofs.lemmas.Bool.{and_parts, cond_both, eqb-true}
use Rattle.std.proofs.lemmas.List.{append-nil}
use Rattle.std.specs.Char.{is_ascii_digit, is_ascii_alphabetic}
use Rattle.acn_lex.specs.declared.scan.Step.TheVariants as step
use Rattle.acn_lex.specs.Bytes.{is_white, starts_with}
use Rattle.acn_lex.specs.Scan.{step_at, step_of, comment_len, block_end, block_step, opens, digits_step, text_from}
use Rattle.acn_lex.specs.Lexes.{IsGap, white, line, block, IsUnclosed, comment, digits, text, IsTooWide, IsBlock}
use Rattle.acn_lex.proofs.Shapes.{Found}
use Rattle.acn_lex.proofs.Classes.{step_white, step_line, step_block, step_digits, step_text}
use Rattle.acn_lex.proofs.Lines.{line_found, line_again, BlockFront, BlockFound, block_found, block_again}
use Rattle.acn_lex.proofs.Literals.{text_step_found, text_passed, digits_found, open_step}
use Rattle.acn_lex.proofs.Digits.{number_found, wide_again, word_found}
use Rattle.acn_lex.proofs.Marks.{mark_found}

line_gap : (b : ℕ) (bs : List ℕ) → (b == 45 && starts_with 45 bs) ≡ true → Found (b ∷ bs) (step.Gap (comment_len (drop 1 bs) + 2))
line_gap b [] e = let f = (and_parts (b == 45) false e).1 in absurd cc
line_gap b (c ∷ cs) e =
    let t = and_parts (b == 45) (c == 45) e in
    let k : b ≡ 45 = eqb-true b 45 t.0 in
    let l : c ≡ 45 = eqb-true c 45 t.1 in
    let f = line_found cs in
    let is : 45 ∷ 45 ∷ (f.0 ++ f.1) ≡ b ∷ c ∷ cs = cc in
    (45 ∷ 45 ∷ f.0, f.1, is, omega (arith, f.3), line f.4)

block_found_in : (cs : List ℕ) (o : Option ℕ) → block_end false 0 0 cs ≡ o → Found (47 ∷ 42 ∷ cs) (block_step o)
block_found_in cs None e = comment (λ front back k p. let g : block_end false 0 0 cs ≡ Some (0 + length front) = subst (λ xs. block_end false 0 0 xs ≡ Some (0 + length front)) k (block_again 0 0 front back p) in absurd cc)
block_found_in cs (Some n) e =
    let f : BlockFront false 0 0 cs n = subst (λ o. BlockFound false 0 0 cs o) e (block_found false 0 0 cs) in
    (47 ∷ 42 ∷ f.0, f.1, ap (λ xs. 47 ∷ 42 ∷ xs) f.2, omega (arith, f.3), block f.4)

block_gap : (b : ℕ) (bs : List ℕ) → opens b bs ≡ true → Found (b ∷ bs) (block_step (block_end false 0 0 (drop 1 bs)))
block_gap b [] e = let f = (and_parts (b == 47) false e).1 in absurd cc
block_gap b (c ∷ cs) e =
    let t = and_parts (b == 47) (c == 42) e in
    let k : b ≡ 47 = eqb-true b 47 t.0 in
    let l : c ≡ 42 = eqb-true c 42 t.1 in
    let is : 47 ∷ 42 ∷ cs ≡ b ∷ c ∷ cs = cc in
    subst (λ xs. Found xs (block_step (block_end false 0 0 cs))) is (block_found_in cs (block_end false 0 0 cs) refl)

found_of : (b : ℕ) (bs : List ℕ) → Found (b ∷ bs) (step_of b bs)
unfolding step_of
found_of b bs =
    cond_both (is_white b) _ _ (Found (b ∷ bs))
    (λ e. (b ∷ [], bs, refl, refl, white e))
    (λ e1. cond_both (b == 45 && starts_with 45 bs) _ _ (Found (b ∷ bs))
    (λ e. line_gap b bs e)
    (λ e2. cond_both (opens b bs) _ _ (Found (b ∷ bs))
    (λ e. block_gap b bs e)
    (λ e3. cond_both (is_ascii_alphabetic b) _ _ (Found (b ∷ bs))
    (λ e. word_found b bs e)
    (λ e4. cond_both (is_ascii_digit b) _ _ (Found (b ∷ bs))
    (λ e. number_found b bs e)
    (λ e5. cond_both (b == 39) _ _ (Found (b ∷ bs))
    (λ e. subst (λ c. Found (c ∷ bs) (digits_step bs)) (sym (eqb-true b 39 e)) (digits_found bs))
    (λ e6. cond_both (b == 34) _ _ (Found (b ∷ bs))
    (λ e. subst (λ c. Found (c ∷ bs) (text_from false 0 bs)) (sym (eqb-true b 34 e)) (text_step_found bs))
    (λ e7. mark_found b bs)))))))

-- what a step finds is there
pub found : (bytes : List ℕ) → Found bytes (step_at bytes)
unfolding step_at
found [] = refl
found (b ∷ bs) = found_of b bs

pub gap_again : (piece rest : List ℕ) → IsGap piece rest → step_at (piece ++ rest) ≡ step.Gap (length piece)
gap_again _ rest (white {b = b} e) = step_white b rest e
gap_again _ rest (line {bs = bs} p) = step_line (bs ++ rest) ∙ ap (λ (n : ℕ). step.Gap n) (omega (arith, line_again bs rest p))
gap_again _ rest (block {bs = bs} p) = step_block (bs ++ rest) ∙ ap block_step (block_again 0 0 bs rest p) ∙ ap (λ (n : ℕ). step.Gap n) (omega arith)

pub wide_found_again : (bytes : List ℕ) → IsTooWide bytes → step_at bytes ≡ step.TooWide
wide_found_again bytes w = subst (λ xs. step_at xs ≡ step.TooWide) w.2 (wide_again w.0 w.1 w.3)

no_block : (rest : List ℕ) (o : Option ℕ) → block_end false 0 0 rest ≡ o → ((front back : List ℕ) → front ++ back ≡ rest → IsBlock zero front → ⊥) → block_step o ≡ step.Unclosed
no_block rest None e h = refl
no_block rest (Some n) e h =
    let f : BlockFront false 0 0 rest n = subst (λ o. BlockFound false 0 0 rest o) e (block_found false 0 0 rest) in
    absurd (h f.0 f.1 f.2 f.4)

pub unclosed_again : (bytes : List ℕ) → IsUnclosed bytes → step_at bytes ≡ step.Unclosed
unclosed_again _ (comment {rest = rest} h) = step_block rest ∙ no_block rest (block_end false 0 0 rest) refl h
unclosed_again _ (digits {body = body} h) = step_digits body ∙ open_step body h
unclosed_again _ (text {body = body} h) = step_text body ∙ subst (λ xs. text_from false 0 xs ≡ step.Unclosed) (append-nil body) (text_passed 0 body [] h)
