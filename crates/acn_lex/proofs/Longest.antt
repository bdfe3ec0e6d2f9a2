-- Tokens: a step finds the longest, and finds each.
use Rattle.std.proofs.Common.{◌≡◌, ℕ, ◌+◌, ◌<◌, ◌≤◌, true, false, ◌&&◌, ◌==◌, cond, List, [], ◌∷◌, ◌++◌, length, take, is_some, refl, sym, ap, subst, ◌∙◌, arith, append_assoc, length-append, length-take}
use Rattle.std.proofs.lemmas.Bool.{and_parts, and_from, cond_both, eqb-true, false_from_ne_true}
use Rattle.std.proofs.lemmas.List.Folds.{list_all-append}
use Rattle.std.specs.List.{list_all}
use Rattle.std.specs.Char.{is_ascii_digit, is_ascii_alphabetic}
use Rattle.acn_lex.specs.declared.Kind.{Kind}
use Rattle.acn_lex.specs.declared.Kind.TheVariants.{Word, Number, Bits, Hex, Text, Mark}
use Rattle.acn_lex.specs.declared.scan.Step.{Step}
use Rattle.acn_lex.specs.declared.scan.Step.TheVariants as step
use Rattle.acn_lex.specs.Bytes.{starts_with, is_hex_or_white, is_bit_or_white}
use Rattle.acn_lex.specs.Number.{is_unwritten, number_in}
use Rattle.acn_lex.specs.Scan.{step_at, run_len, word_len, comment_len, number_step, text_from}
use Rattle.acn_lex.specs.Lexes.{is_digits, is_tail, starts_digit, starts_line_comment, IsForm, IsToken, IsTextBody, IsBad}
use Rattle.acn_lex.proofs.Shapes.{Found}
use Rattle.acn_lex.proofs.Runs.{run_within, run_bound, tail_within}
use Rattle.acn_lex.proofs.Classes.{step_line, step_word, step_number, step_digits, step_text}
use Rattle.acn_lex.proofs.Literals.{text_passed, text_least, hex_step, bits_step}
use Rattle.acn_lex.proofs.Digits.{number_again}
use Rattle.acn_lex.proofs.Marks.{mark_again}
use Rattle.acn_lex.proofs.Steps.{found, gap_again, wide_found_again, unclosed_again}

one_length : (s : Step) (k l : Kind) (m n : ℕ) → s ≡ step.Token k m → s ≡ step.Token l n → m ≡ n
one_length s k l m n e h = cc

number_length : (text : List ℕ) (l : Kind) (n : ℕ) → number_step text ≡ step.Token l n → length text ≡ n
unfolding number_step
number_length text l n e =
    cond_both (is_unwritten text) step.BadByte (cond (is_some (number_in text)) (step.Token Number (length text)) step.TooWide) (λ s. s ≡ step.Token l n → length text ≡ n)
    (λ w h. no_bad h)
    (λ w. cond_both (is_some (number_in text)) (step.Token Number (length text)) step.TooWide (λ s. s ≡ step.Token l n → length text ≡ n)
    (λ v h. one_length (step.Token Number (length text)) Number l (length text) n refl h) (λ v h. no_wide h)) e
  where
    no_bad : step.BadByte ≡ step.Token l n → length text ≡ n
    no_bad h = absurd cc

    no_wide : step.TooWide ≡ step.Token l n → length text ≡ n
    no_wide h = absurd cc

bits_at : (body back : List ℕ) → list_all is_bit_or_white body ≡ true → step_at ((39 ∷ (body ++ 39 ∷ 66 ∷ [])) ++ back) ≡ step.Token Bits (length body + 3)
bits_at body back h = ap (λ (xs : List ℕ). step_at (39 ∷ xs)) (append_assoc body (39 ∷ 66 ∷ []) back) ∙ step_digits (body ++ 39 ∷ 66 ∷ back) ∙ bits_step body back h

hex_at : (body back : List ℕ) → list_all is_hex_or_white body ≡ true → step_at ((39 ∷ (body ++ 39 ∷ 72 ∷ [])) ++ back) ≡ step.Token Hex (length body + 3)
hex_at body back h = ap (λ (xs : List ℕ). step_at (39 ∷ xs)) (append_assoc body (39 ∷ 72 ∷ []) back) ∙ step_digits (body ++ 39 ∷ 72 ∷ back) ∙ hex_step body back h

text_at : (body back : List ℕ) → IsTextBody body → step_at ((34 ∷ (body ++ 34 ∷ [])) ++ back) ≡ text_from false (length body) (34 ∷ back)
text_at body back p =
    ap (λ (xs : List ℕ). step_at (34 ∷ xs)) (append_assoc body (34 ∷ []) back) ∙ step_text (body ++ 34 ∷ back) ∙ text_passed 0 body (34 ∷ back) p ∙ ap (λ (n : ℕ). text_from false n (34 ∷ back)) (omega arith)

literal_length : (a c l : ℕ) (body front : List ℕ) → front ≡ a ∷ (body ++ c ∷ l ∷ []) → length front ≡ length body + 3
literal_length a c l body front is = ap length is ∙ omega (arith, length-append body (c ∷ l ∷ []))

text_length : (body front : List ℕ) → front ≡ 34 ∷ (body ++ 34 ∷ []) → length front ≡ length body + 2
text_length body front is = ap length is ∙ omega (arith, length-append body (34 ∷ []))

-- a front that has the form of a token is no longer than the token that a step finds
pub upper : (k : Kind) (front back : List ℕ) (l : Kind) (n : ℕ) → IsForm k front → starts_line_comment (front ++ back) ≡ false → step_at (front ++ back) ≡ step.Token l n → length front ≤ n
upper Word [] back l n form apart e = omega arith
upper Word (b ∷ bs) back l n form apart e =
    let t = and_parts (is_ascii_alphabetic b) (is_tail bs) form in
    let m = one_length _ Word l (word_len (bs ++ back) + 1) n (step_word b (bs ++ back) t.0) e in
    omega (arith, m, tail_within bs back t.1)
upper Number [] back l n form apart e = omega arith
upper Number (b ∷ bs) back l n form apart e =
    let t = and_parts (is_ascii_digit b) (list_all is_ascii_digit bs) form in
    let m = number_length (take (run_len is_ascii_digit (bs ++ back) + 1) (b ∷ (bs ++ back))) l n (sym (step_number b (bs ++ back) t.0) ∙ e) in
    omega (arith, m, length-take (run_len is_ascii_digit (bs ++ back) + 1) (b ∷ (bs ++ back)), run_bound is_ascii_digit (bs ++ back), run_within is_ascii_digit bs back t.1)
upper Bits front back l n form apart e =
    let at : step_at (front ++ back) ≡ step.Token Bits (length form.0 + 3) = subst (λ (xs : List ℕ). step_at (xs ++ back) ≡ step.Token Bits (length form.0 + 3)) (sym form.2) (bits_at form.0 back form.1) in
    let m = one_length _ Bits l (length form.0 + 3) n at e in
    omega (arith, m, literal_length 39 39 66 form.0 front form.2)
upper Hex front back l n form apart e =
    let at : step_at (front ++ back) ≡ step.Token Hex (length form.0 + 3) = subst (λ (xs : List ℕ). step_at (xs ++ back) ≡ step.Token Hex (length form.0 + 3)) (sym form.2) (hex_at form.0 back form.1) in
    let m = one_length _ Hex l (length form.0 + 3) n at e in
    omega (arith, m, literal_length 39 39 72 form.0 front form.2)
upper Text front back l n form apart e =
    let at : step_at (front ++ back) ≡ text_from false (length form.0) (34 ∷ back) = subst (λ (xs : List ℕ). step_at (xs ++ back) ≡ text_from false (length form.0) (34 ∷ back)) (sym form.2) (text_at form.0 back form.1) in
    let m : length form.0 + 2 ≤ n = cond_both (starts_with 34 back) (text_from true (length form.0 + 1) back) (step.Token Text (length form.0 + 2)) (λ s. s ≡ step.Token l n → length form.0 + 2 ≤ n)
    (λ q h. omega (arith, text_least true (length form.0 + 1) back l n h)) (λ q h. omega (arith, one_length _ Text l (length form.0 + 2) n refl h)) (sym at ∙ e) in
    omega (arith, m, text_length form.0 front form.2)
upper Mark front back l n form apart e =
    let m = mark_again front back form apart in
    omega (arith, one_length _ Mark l m.0 n m.1 e, m.2)

comment_free : (bytes : List ℕ) (k : Kind) (n : ℕ) → step_at bytes ≡ step.Token k n → starts_line_comment bytes ≡ false
comment_free [] k n e = refl
comment_free (b ∷ []) k n e = false_from_ne_true (b == 45 && false) (λ t. let f = (and_parts (b == 45) false t).1 in absurd cc)
comment_free (b ∷ c ∷ cs) k n e = false_from_ne_true (b == 45 && (c == 45)) (λ t.
    let u = and_parts (b == 45) (c == 45) t in
    let is : b ∷ c ∷ cs ≡ 45 ∷ 45 ∷ cs = let g : b ≡ 45 = eqb-true b 45 u.0 in let h : c ≡ 45 = eqb-true c 45 u.1 in cc in
    let g : step_at (b ∷ c ∷ cs) ≡ step.Gap (comment_len cs + 2) = ap step_at is ∙ step_line cs in absurd cc)

-- the token that a step finds
pub token_found : (bytes : List ℕ) (k : Kind) (n : ℕ) → step_at bytes ≡ step.Token k n → (text rest : List ℕ) × (text ++ rest ≡ bytes) × (length text ≡ n) × IsToken k text rest
token_found bytes k n e =
    let f : Found bytes (step.Token k n) = subst (Found bytes) e (found bytes) in
    let apart = comment_free bytes k n e in (
      f.0,
      f.1,
      f.2,
      f.3,
      record {
        form = f.4.form;
        longest = λ other front back is form.
            let whole : front ++ back ≡ bytes = is ∙ f.2 in
            omega (arith, upper other front back k n form (subst (λ xs. starts_line_comment xs ≡ false) (sym whole) apart) (ap step_at whole ∙ e), f.3);
        apart = subst (λ xs. starts_line_comment xs ≡ false) (sym f.2) apart;
        written = f.4.written;
        small = f.4.small;
        closed = f.4.closed;
      },
    )

-- a step that finds a token finds the one that stands there
squeeze : (k : Kind) (text rest : List ℕ) (l : Kind) (n : ℕ) → IsToken k text rest → step_at (text ++ rest) ≡ step.Token l n → n ≡ length text
squeeze k text rest l n t e =
    let f : Found (text ++ rest) (step.Token l n) = subst (Found (text ++ rest)) e (found (text ++ rest)) in
    omega (arith, t.longest l f.0 f.1 f.2 f.4.form, f.3, upper k text rest l n t.form t.apart e)

digits_end : (text rest : List ℕ) → is_digits text ≡ true → ((front back : List ℕ) → front ++ back ≡ text ++ rest → is_digits front ≡ true → length front ≤ length text) → starts_digit rest ≡ false
digits_end text [] d f = refl
digits_end [] (c ∷ cs) d f = absurd cc
digits_end (b ∷ bs) (c ∷ cs) d f = false_from_ne_true (is_ascii_digit c) (λ e.
    let all : list_all is_ascii_digit ((b ∷ bs) ++ c ∷ []) ≡ true = list_all-append is_ascii_digit (b ∷ bs) (c ∷ []) ∙ and_from (list_all is_ascii_digit (b ∷ bs)) (is_ascii_digit c && true) d (and_from (is_ascii_digit c) true e refl) in
    absurd (omega (arith, f ((b ∷ bs) ++ c ∷ []) cs (append_assoc (b ∷ bs) (c ∷ []) cs) all, length-append (b ∷ bs) (c ∷ []))))

-- each token is found
pub token_again : (k : Kind) (text rest : List ℕ) → IsToken k text rest → step_at (text ++ rest) ≡ step.Token k (length text)
token_again Word [] rest t = let f = t.form in absurd cc
token_again Word (b ∷ bs) rest t =
    let e = step_word b (bs ++ rest) (and_parts (is_ascii_alphabetic b) (is_tail bs) t.form).0 in
    e ∙ ap (λ (n : ℕ). step.Token Word n) (squeeze Word (b ∷ bs) rest Word (word_len (bs ++ rest) + 1) t e)
token_again Number text rest t = number_again text rest t.form (digits_end text rest t.form (λ front back is d. t.longest Number front back is d)) (t.written refl) (t.small refl)
token_again Bits text rest t =
    subst (λ (xs : List ℕ). step_at (xs ++ rest) ≡ step.Token Bits (length t.form.0 + 3)) (sym t.form.2) (bits_at t.form.0 rest t.form.1) ∙ ap (λ (n : ℕ). step.Token Bits n) (sym (literal_length 39 39 66 t.form.0 text t.form.2))
token_again Hex text rest t =
    subst (λ (xs : List ℕ). step_at (xs ++ rest) ≡ step.Token Hex (length t.form.0 + 3)) (sym t.form.2) (hex_at t.form.0 rest t.form.1) ∙ ap (λ (n : ℕ). step.Token Hex n) (sym (literal_length 39 39 72 t.form.0 text t.form.2))
token_again Text text rest t =
    let c = t.closed refl in
    let e : text_from false (length t.form.0) (34 ∷ rest) ≡ step.Token Text (length t.form.0 + 2) = rw c refl in
    subst (λ (xs : List ℕ). step_at (xs ++ rest) ≡ text_from false (length t.form.0) (34 ∷ rest)) (sym t.form.2) (text_at t.form.0 rest t.form.1) ∙ e ∙ ap (λ (n : ℕ). step.Token Text n) (sym (text_length t.form.0 text t.form.2))
token_again Mark text rest t =
    let m = mark_again text rest t.form t.apart in
    m.1 ∙ ap (λ (n : ℕ). step.Token Mark n) (squeeze Mark text rest Mark m.0 t m.1)

some_byte : (bytes : List ℕ) → step_at bytes ≡ step.BadByte → 0 < length bytes
unfolding step_at
some_byte [] e = absurd cc
some_byte (b ∷ bs) e = omega arith

-- where a step finds no token, there is none
pub bad_found : (bytes : List ℕ) → step_at bytes ≡ step.BadByte → IsBad bytes
bad_found bytes e = record {
  more = some_byte bytes e;
  no_gap = λ piece rest is g. let k : step_at bytes ≡ step.Gap (length piece) = ap step_at (sym is) ∙ gap_again piece rest g in absurd cc;
  no_token = λ kind text rest is t. let k : step_at bytes ≡ step.Token kind (length text) = ap step_at (sym is) ∙ token_again kind text rest t in absurd cc;
  ended = λ u. let k = unclosed_again bytes u in absurd cc;
  small = λ w. let k = wide_found_again bytes w in absurd cc;
}

pub bad_again : (bytes : List ℕ) → IsBad bytes → step_at bytes ≡ step.BadByte
bad_again bytes bad = by_step (step_at bytes) refl (found bytes)
  where
    by_step : (s : Step) → step_at bytes ≡ s → Found bytes s → s ≡ step.BadByte
    by_step step.End e f = absurd (omega (arith, bad.more, ap length f))
    by_step (step.Gap k) e f = absurd (bad.no_gap f.0 f.1 f.2 f.4)
    by_step (step.Token k n) e f = let t = token_found bytes k n e in absurd (bad.no_token k t.0 t.1 t.2 t.4)
    by_step step.BadByte e f = refl
    by_step step.Unclosed e f = absurd (bad.ended f)
    by_step step.TooWide e f = absurd (bad.small f)
