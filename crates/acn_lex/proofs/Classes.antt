-- Which classes of bytes have no byte in common, and what a step is by the first byte.
use Rattle.std.proofs.Common.{◌≡◌, ℕ, ◌+◌, Bool, true, false, not, ◌&&◌, ◌==◌, List, [], ◌∷◌, take, codes, refl, subst, arith, inl, inr}
use Rattle.std.proofs.lemmas.Bool.{and_parts, or_cases, eqb-true, false_from_ne_true, not-true}
use Rattle.std.proofs.lemmas.Bool.Decides.{nat_tests}
use Rattle.std.specs.List.{list_any, list_all}
use Rattle.std.specs.Char.{is_ascii_digit, is_ascii_alphabetic}
use Rattle.acn_lex.specs.declared.Kind.TheVariants.{Word}
use Rattle.acn_lex.specs.declared.scan.Step.TheVariants as step
use Rattle.acn_lex.specs.Bytes.{is_white, is_single, starts_with}
use Rattle.acn_lex.specs.Scan.{step_at, step_of, run_len, word_len, comment_len, block_end, block_step, number_step, digits_step, text_from, mark_len, mark_step}

pub letter_not_white : (b : ℕ) → is_ascii_alphabetic b ≡ true → is_white b ≡ false
letter_not_white b e = grind (arith, nat_tests)

pub digit_not_white : (b : ℕ) → is_ascii_digit b ≡ true → is_white b ≡ false
digit_not_white b e = grind (arith, nat_tests)

pub digit_not_letter : (b : ℕ) → is_ascii_digit b ≡ true → is_ascii_alphabetic b ≡ false
digit_not_letter b e = grind (arith, nat_tests)

-- a letter is none of the bytes that a test passes
pub letter_not : (c b : ℕ) → is_ascii_alphabetic c ≡ false → is_ascii_alphabetic b ≡ true → b == c ≡ false
letter_not c b n e = false_from_ne_true (b == c) (λ t. let k : b ≡ c = eqb-true b c t in absurd cc)

pub digit_not : (c b : ℕ) → is_ascii_digit c ≡ false → is_ascii_digit b ≡ true → b == c ≡ false
digit_not c b n e = false_from_ne_true (b == c) (λ t. let k : b ≡ c = eqb-true b c t in absurd cc)

-- a test that all bytes of a list pass, at one of them
one_of : (q : ℕ → Bool) (b : ℕ) (xs : List ℕ) → list_any (λ c. c == b) xs ≡ true → list_all q xs ≡ true → q b ≡ true
one_of q b [] e h = absurd cc
one_of q b (x ∷ xs) e h =
    let t = and_parts (q x) (list_all q xs) h in
    elim (or_cases (x == b) (list_any (λ c. c == b) xs) e) [
      | inl k ↦ subst (λ c. q c ≡ true) (eqb-true x b k) t.0
      | inr k ↦ one_of q b xs k t.1
    ]

-- no mark of one byte passes a test
pub single_not : (q : ℕ → Bool) (b : ℕ) → list_all (λ c. not (q c)) (codes ".,;:{}()[]<>|^-=@!&") ≡ true → is_single b ≡ true → q b ≡ false
single_not q b h e = not-true (q b) (one_of (λ c. not (q c)) b (codes ".,;:{}()[]<>|^-=@!&") e h)

and_left : (a b : Bool) → a ≡ false → a && b ≡ false
and_left a b e = rw e refl

pub step_white : (b : ℕ) (bs : List ℕ) → is_white b ≡ true → step_at (b ∷ bs) ≡ step.Gap 1
unfolding step_at step_of
step_white b bs e = rw e refl

pub step_line : (bs : List ℕ) → step_at (45 ∷ 45 ∷ bs) ≡ step.Gap (comment_len bs + 2)
unfolding step_at step_of
step_line bs = refl

pub step_block : (bs : List ℕ) → step_at (47 ∷ 42 ∷ bs) ≡ block_step (block_end false 0 0 bs)
unfolding step_at step_of
step_block bs = refl

pub step_word : (b : ℕ) (bs : List ℕ) → is_ascii_alphabetic b ≡ true → step_at (b ∷ bs) ≡ step.Token Word (word_len bs + 1)
unfolding step_at step_of
step_word b bs e = rw (letter_not_white b e, letter_not 45 b refl e, letter_not 47 b refl e, e) refl

pub step_number : (b : ℕ) (bs : List ℕ) → is_ascii_digit b ≡ true → step_at (b ∷ bs) ≡ number_step (take (run_len is_ascii_digit bs + 1) (b ∷ bs))
unfolding step_at step_of
step_number b bs e = rw (digit_not_white b e, digit_not 45 b refl e, digit_not 47 b refl e, digit_not_letter b e, e) refl

pub step_digits : (bs : List ℕ) → step_at (39 ∷ bs) ≡ digits_step bs
unfolding step_at step_of
step_digits bs = refl

pub step_text : (bs : List ℕ) → step_at (34 ∷ bs) ≡ text_from false 0 bs
unfolding step_at step_of
step_text bs = refl

pub step_mark : (b : ℕ) (bs : List ℕ) → is_single b ≡ true → (b == 45 && starts_with 45 bs) ≡ false → step_at (b ∷ bs) ≡ mark_step (mark_len b bs)
unfolding step_at step_of
step_mark b bs e h = rw (single_not is_white b refl e, h, single_not (λ c. c == 47) b refl e, single_not is_ascii_alphabetic b refl e, single_not is_ascii_digit b refl e, single_not (λ c. c == 39) b refl e, single_not (λ c. c == 34) b refl e) refl
