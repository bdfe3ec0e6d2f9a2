-- Marks: where they end.
use Rattle.std.proofs.Common.{◌≡◌, ℕ, ◌≤◌, true, false, ◌&&◌, ◌==◌, List, [], ◌∷◌, ◌++◌, length, drop, refl, ◌∙◌, arith}
use Rattle.std.proofs.lemmas.Bool.{and_parts, cond_both, eqb-true, ne_eqb}
use Rattle.acn_lex.specs.declared.Kind.TheVariants.{Mark}
use Rattle.acn_lex.specs.declared.scan.Step.TheVariants as step
use Rattle.acn_lex.specs.Bytes.{starts_with, is_single}
use Rattle.acn_lex.specs.Scan.{mark_len, mark_step, step_at, step_of}
use Rattle.acn_lex.specs.Lexes.{IsMark, single, assignment, range, ellipsis, equality, starts_line_comment}
use Rattle.acn_lex.proofs.Shapes.{Found}
use Rattle.acn_lex.proofs.Lines.{first_byte}
use Rattle.acn_lex.proofs.Classes.{step_mark}

mark_shape : (text rest bytes : List ℕ) → text ++ rest ≡ bytes → IsMark text → Found bytes (step.Token Mark (length text))
mark_shape text rest bytes is m = (text, rest, is, refl, record { form = m; written = λ k. absurd cc; small = λ k. absurd cc; closed = λ k. absurd cc })

two_bytes : (c d b : ℕ) (bs : List ℕ) → (b == c && starts_with d bs) ≡ true → (more : List ℕ) × (c ∷ d ∷ more ≡ b ∷ bs)
two_bytes c d b bs e =
    let t = and_parts (b == c) (starts_with d bs) e in
    let f = first_byte d bs t.1 in
    let k : b ≡ c = eqb-true b c t.0 in
    (f.0, cc (k, f.1))

three_bytes : (c d x b : ℕ) (bs : List ℕ) → (b == c && starts_with d bs) ≡ true → starts_with x (drop 1 bs) ≡ true → (more : List ℕ) × (c ∷ d ∷ x ∷ more ≡ b ∷ bs)
three_bytes c d x b [] e h = absurd cc
three_bytes c d x b (y ∷ ys) e h =
    let t = and_parts (b == c) (y == d) e in
    let f = first_byte x ys h in
    let k : b ≡ c = eqb-true b c t.0 in
    let l : y ≡ d = eqb-true y d t.1 in
    (f.0, cc (k, l, f.1))

pub mark_found : (b : ℕ) (bs : List ℕ) → Found (b ∷ bs) (mark_step (mark_len b bs))
mark_found b bs =
    cond_both (b == 58 && starts_with 58 bs && starts_with 61 (drop 1 bs)) _ _ (λ n. Found (b ∷ bs) (mark_step n))
    (λ e. let t = and_parts (b == 58 && starts_with 58 bs) (starts_with 61 (drop 1 bs)) e in
    let f = three_bytes 58 58 61 b bs t.0 t.1 in
    mark_shape (58 ∷ 58 ∷ 61 ∷ []) f.0 (b ∷ bs) f.1 assignment)
    (λ n1. cond_both (b == 46 && starts_with 46 bs) _ _ (λ n. Found (b ∷ bs) (mark_step n))
    (λ e. cond_both (starts_with 46 (drop 1 bs)) _ _ (λ n. Found (b ∷ bs) (mark_step n))
    (λ h. let f = three_bytes 46 46 46 b bs e h in mark_shape (46 ∷ 46 ∷ 46 ∷ []) f.0 (b ∷ bs) f.1 ellipsis)
    (λ h. let f = two_bytes 46 46 b bs e in mark_shape (46 ∷ 46 ∷ []) f.0 (b ∷ bs) f.1 range))
    (λ n2. cond_both (b == 61 && starts_with 61 bs) _ _ (λ n. Found (b ∷ bs) (mark_step n))
    (λ e. let f = two_bytes 61 61 b bs e in mark_shape (61 ∷ 61 ∷ []) f.0 (b ∷ bs) f.1 equality)
    (λ n3. cond_both (is_single b) _ _ (λ n. Found (b ∷ bs) (mark_step n))
    (λ e. mark_shape (b ∷ []) bs (b ∷ bs) refl (single e))
    (λ e. tt))))

-- a mark of one byte is a mark, if not the longest
pub some_mark : (b : ℕ) (bs : List ℕ) → is_single b ≡ true → 1 ≤ mark_len b bs
some_mark b bs e =
    cond_both (b == 58 && starts_with 58 bs && starts_with 61 (drop 1 bs)) _ _ (λ n. 1 ≤ n) (λ h. omega arith)
    (λ h. cond_both (b == 46 && starts_with 46 bs) _ _ (λ n. 1 ≤ n) (λ g. cond_both (starts_with 46 (drop 1 bs)) _ _ (λ n. 1 ≤ n) (λ k. omega arith) (λ k. omega arith))
    (λ h. cond_both (b == 61 && starts_with 61 bs) _ _ (λ n. 1 ≤ n) (λ g. omega arith)
    (λ g. cond_both (is_single b) 1 0 (λ n. 1 ≤ n) (λ k. omega arith) (λ k. absurd cc))))

pub mark_steps : (n : ℕ) → 1 ≤ n → mark_step n ≡ step.Token Mark n
mark_steps n h = rw (ne_eqb n 0 (λ e. omega (arith, e))) refl

-- The step at a mark that no comment begins with is a mark that is no shorter.
pub mark_again : (front back : List ℕ) → IsMark front → starts_line_comment (front ++ back) ≡ false → (n : ℕ) × (step_at (front ++ back) ≡ step.Token Mark n) × (length front ≤ n)
unfolding step_at step_of
mark_again _ back (single {b = b} e) h = let m = some_mark b back e in (mark_len b back, step_mark b back e h ∙ mark_steps (mark_len b back) m, m)
mark_again _ back assignment h = (3, refl, omega arith)
mark_again _ back range h = cond_both (starts_with 46 back) 3 2 (λ k. (n : ℕ) × (mark_step k ≡ step.Token Mark n) × (2 ≤ n)) (λ e. (3, refl, omega arith)) (λ e. (2, refl, omega arith))
mark_again _ back ellipsis h = (3, refl, omega arith)
mark_again _ back equality h = (2, refl, omega arith)
