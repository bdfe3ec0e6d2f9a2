-- Numbers and words: where they end.
use Rattle.std.proofs.Common.{◌≡◌, ℕ, ◌+◌, ◌^◌, ◌<◌, true, false, cond, List, [], ◌∷◌, ◌++◌, length, take, drop, Some, is_some, refl, ap, subst, ◌∙◌, arith, length-take, add-one}
use Rattle.std.proofs.lemmas.List.{take-append-drop}
use Rattle.std.proofs.lemmas.Bool.{and_parts, and_from, cond_both, false_from_ne_true}
use Rattle.std.proofs.Math.Seq.{take-append_seam}
use Rattle.std.specs.Str.{all_ascii_digits}
use Rattle.std.specs.List.{list_all}
use Rattle.std.specs.Char.{is_ascii_digit, is_ascii_alphabetic}
use Rattle.acn_lex.specs.declared.Kind.TheVariants.{Word, Number}
use Rattle.acn_lex.specs.declared.scan.Step.TheVariants as step
use Rattle.acn_lex.specs.Number.{is_unwritten, number_in}
use Rattle.acn_lex.specs.Scan.{run_len, word_len, number_step, step_at}
use Rattle.acn_lex.specs.Lexes.{is_digits, is_tail, spelled, starts_digit, IsWide}
use Rattle.acn_lex.proofs.Shapes.{Found}
use Rattle.acn_lex.proofs.Runs.{stops, run_all, run_exact, run_stops, word_bound}
use Rattle.acn_lex.proofs.ScanLemmas.{word_is}
use Rattle.acn_lex.proofs.NumberLemmas.{number_small, number_spelled, number_wide}
use Rattle.acn_lex.proofs.Classes.{step_number}

all_of : (bs : List ℕ) → list_all is_ascii_digit bs ≡ true → all_ascii_digits bs ≡ true
all_of [] e = refl
all_of (b ∷ bs) e = let t = and_parts (is_ascii_digit b) (list_all is_ascii_digit bs) e in and_from (is_ascii_digit b) (all_ascii_digits bs) t.0 (all_of bs t.1)

pub digits_all : (text : List ℕ) → is_digits text ≡ true → all_ascii_digits text ≡ true
digits_all [] e = absurd cc
digits_all (b ∷ bs) e = all_of (b ∷ bs) e

-- what digits are that no further one follows
pub number_shape : (text rest bytes : List ℕ) → text ++ rest ≡ bytes → is_digits text ≡ true → starts_digit rest ≡ false → Found bytes (number_step text)
unfolding number_step
number_shape text rest bytes is d st =
    cond_both (is_unwritten text) step.BadByte (cond (is_some (number_in text)) (step.Token Number (length text)) step.TooWide) (Found bytes)
    (λ w. tt)
    (λ w. cond_both (is_some (number_in text)) (step.Token Number (length text)) step.TooWide (Found bytes)
    (λ s. (text, rest, is, refl, record { form = d; written = λ k. w; small = λ k. number_small text s; closed = λ k. absurd cc }))
    (λ s. (text, rest, is, record { digits = d; whole = st; written = w; wide = number_wide text w (digits_all text d) s })))

no_digit : (bs : List ℕ) → stops is_ascii_digit bs ≡ true → starts_digit bs ≡ false
no_digit [] e = refl
no_digit (b ∷ bs) e = false_from_ne_true (is_ascii_digit b) (λ k. absurd cc)

pub digit_stops : (bs : List ℕ) → starts_digit bs ≡ false → stops is_ascii_digit bs ≡ true
digit_stops [] e = refl
digit_stops (b ∷ bs) e = rw e refl

pub number_found : (b : ℕ) (bs : List ℕ) → is_ascii_digit b ≡ true → Found (b ∷ bs) (number_step (take (run_len is_ascii_digit bs + 1) (b ∷ bs)))
number_found b bs e =
    let n = run_len is_ascii_digit bs in
    let front : b ∷ take n bs ≡ take (n + 1) (b ∷ bs) = rw (add-one n) refl in
    subst (λ (xs : List ℕ). Found (b ∷ bs) (number_step xs)) front
    (number_shape (b ∷ take n bs) (drop n bs) (b ∷ bs) (ap (λ xs. b ∷ xs) (take-append-drop n bs)) (and_from (is_ascii_digit b) (list_all is_ascii_digit (take n bs)) e (run_all is_ascii_digit bs)) (no_digit (drop n bs) (run_stops is_ascii_digit bs)))

-- digits are read whole
pub number_at : (text rest : List ℕ) → is_digits text ≡ true → starts_digit rest ≡ false → step_at (text ++ rest) ≡ number_step text
number_at [] rest d st = absurd cc
number_at (b ∷ bs) rest d st =
    let t = and_parts (is_ascii_digit b) (list_all is_ascii_digit bs) d in
    let n : run_len is_ascii_digit (bs ++ rest) ≡ length bs = run_exact is_ascii_digit bs rest t.1 (digit_stops rest st) in
    let front : take (length bs + 1) (b ∷ (bs ++ rest)) ≡ b ∷ bs = rw (add-one (length bs)) (ap (λ xs. b ∷ xs) (take-append_seam bs rest)) in
    step_number b (bs ++ rest) t.0 ∙ ap (λ (k : ℕ). number_step (take (k + 1) (b ∷ (bs ++ rest)))) n ∙ ap number_step front

pub number_again : (text rest : List ℕ) → is_digits text ≡ true → starts_digit rest ≡ false → is_unwritten text ≡ false → spelled 0 text < 2 ^ 64 → step_at (text ++ rest) ≡ step.Token Number (length text)
unfolding number_step
number_again text rest d st w s =
    let n : number_in text ≡ Some (spelled 0 text) = number_spelled text w (digits_all text d) s in
    number_at text rest d st ∙ (rw (w, n) refl)

pub wide_again : (text rest : List ℕ) → IsWide text rest → step_at (text ++ rest) ≡ step.TooWide
unfolding number_step
wide_again text rest w =
    let n : is_some (number_in text) ≡ false = false_from_ne_true (is_some (number_in text)) (λ k. absurd (omega (arith, number_small text k, w.wide))) in
    number_at text rest w.digits w.whole ∙ (rw (w.written, n) refl)

pub word_found : (b : ℕ) (bs : List ℕ) → is_ascii_alphabetic b ≡ true → Found (b ∷ bs) (step.Token Word (word_len bs + 1))
word_found b bs e =
    let n = word_len bs in (
      b ∷ take n bs,
      drop n bs,
      ap (λ xs. b ∷ xs) (take-append-drop n bs),
      omega (arith, length-take n bs, word_bound bs),
      record { form = and_from (is_ascii_alphabetic b) (is_tail (take n bs)) e (word_is bs); written = λ k. absurd cc; small = λ k. absurd cc; closed = λ k. absurd cc },
    )
