-- Literals: where they end.
use Rattle.std.proofs.Common.{◌≡◌, ℕ, suc, ◌+◌, ◌<◌, Bool, true, false, ◌&&◌, ◌==◌, List, [], ◌∷◌, ◌++◌, length, take, drop, refl, sym, ap, subst, ◌∙◌, arith, append_assoc, length-append, length-take}
use Rattle.std.proofs.lemmas.List.{append-nil, take-append-drop}
use Rattle.std.proofs.lemmas.Bool.{and_parts, cond_both, eqb-true, eq-eqb}
use Rattle.std.proofs.lemmas.Bool.Decides.{nat_tests}
use Rattle.std.proofs.Math.Seq.{drop-append_seam, drop-length}
use Rattle.std.specs.Cmp.Derive.{both_true}
use Rattle.std.specs.List.{list_all}
use Rattle.acn_lex.specs.declared.Kind.{Kind}
use Rattle.acn_lex.specs.declared.Kind.TheVariants.{Bits, Hex, Text}
use Rattle.acn_lex.specs.declared.scan.Step.{Step}
use Rattle.acn_lex.specs.declared.scan.Step.TheVariants as step
use Rattle.acn_lex.specs.Bytes.{starts_with, is_text_byte, is_hex_or_white, is_bit_or_white}
use Rattle.acn_lex.specs.Scan.{run_len, ended_step, digits_step, text_from}
use Rattle.acn_lex.specs.Lexes.{IsTextBody, none, pair, byte, digits, text}
use Rattle.acn_lex.proofs.Shapes.{Shaped, Found}
use Rattle.acn_lex.proofs.Runs.{run_all, run_bound, run_exact}
use Rattle.acn_lex.proofs.Lines.{first_byte}

-- the body of a text, where the first byte may be passed over
abbrev IsPassed : Bool → List ℕ → Type 0
IsPassed false body = IsTextBody body
IsPassed true [] = ⊥
IsPassed true (c ∷ cs) = IsTextBody cs

abbrev IsOpen : Bool → List ℕ → Type 0
IsOpen false bs = IsTextBody bs
IsOpen true [] = Unit {0}
IsOpen true (c ∷ cs) = IsTextBody cs

abbrev TextFound : Bool → ℕ → List ℕ → Step → Type 0
TextFound skip at bs step.End = ⊥
TextFound skip at bs (step.Gap k) = ⊥
TextFound skip at bs (step.Token kind n) = (kind ≡ Text) × (body rest : List ℕ) × (body ++ 34 ∷ rest ≡ bs) × (at + length body + 2 ≡ n) × IsPassed skip body × (starts_with 34 rest ≡ false)
TextFound skip at bs step.BadByte = Unit {0}
TextFound skip at bs step.Unclosed = IsOpen skip bs
TextFound skip at bs step.TooWide = ⊥

grow : (skip to : Bool) (at b : ℕ) (bs : List ℕ) (s : Step) → ((body rest : List ℕ) → body ++ 34 ∷ rest ≡ bs → IsPassed skip body → IsPassed to (b ∷ body)) → (IsOpen skip bs → IsOpen to (b ∷ bs))
    → TextFound skip (at + 1) bs s → TextFound to at (b ∷ bs) s
grow skip to at b bs step.End f g h = h
grow skip to at b bs (step.Gap k) f g h = h
grow skip to at b bs (step.Token kind n) f g h = (h.0, b ∷ h.1, h.2, ap (λ xs. b ∷ xs) h.3, omega (arith, h.4), f h.1 h.2 h.3 h.5, h.6)
grow skip to at b bs step.BadByte f g h = tt
grow skip to at b bs step.Unclosed f g h = g h
grow skip to at b bs step.TooWide f g h = h

paired : (b c : ℕ) (cs : List ℕ) → b ≡ 34 → c ≡ 34 → IsTextBody cs → IsTextBody (b ∷ c ∷ cs)
paired b c cs k l p = subst (λ x. IsTextBody (x ∷ c ∷ cs)) (sym k) (subst (λ x. IsTextBody (34 ∷ x ∷ cs)) (sym l) (pair p))

pair_body : (b : ℕ) (bs : List ℕ) → b ≡ 34 → starts_with 34 bs ≡ true → (body rest : List ℕ) → body ++ 34 ∷ rest ≡ bs → IsPassed true body → IsTextBody (b ∷ body)
pair_body b bs k e [] rest is p = absurd p
pair_body b bs k e (c ∷ cs) rest is p = paired b c cs k (eqb-true c 34 (subst (λ xs. starts_with 34 xs ≡ true) (sym is) e)) p

pair_open : (b : ℕ) (bs : List ℕ) → b ≡ 34 → starts_with 34 bs ≡ true → IsOpen true bs → IsTextBody (b ∷ bs)
pair_open b [] k e p = absurd cc
pair_open b (c ∷ cs) k e p = paired b c cs k (eqb-true c 34 e) p

pub text_found : (skip : Bool) (at : ℕ) (bs : List ℕ) → TextFound skip at bs (text_from skip at bs)
text_found true at [] = tt
text_found false at [] = none
text_found true at (b ∷ bs) = grow false true at b bs (text_from false (at + 1) bs) (λ body rest k p. p) (λ p. p) (text_found false (at + 1) bs)
text_found false at (b ∷ bs) =
    cond_both (is_text_byte b) _ _ (TextFound false at (b ∷ bs))
    (λ e. grow false false at b bs (text_from false (at + 1) bs) (λ body rest k p. byte e p) (λ p. byte e p) (text_found false (at + 1) bs))
    (λ e. cond_both (b == 34) _ _ (TextFound false at (b ∷ bs))
    (λ q. cond_both (starts_with 34 bs) _ _ (TextFound false at (b ∷ bs))
    (λ s. grow true false at b bs (text_from true (at + 1) bs) (pair_body b bs (eqb-true b 34 q) s) (pair_open b bs (eqb-true b 34 q) s) (text_found true (at + 1) bs))
    (λ s. (refl, [], bs, ap (λ x. x ∷ bs) (sym (eqb-true b 34 q)), omega arith, none, s)))
    (λ q. tt))

text_shaped : (bs : List ℕ) (s : Step) → TextFound false 0 bs s → Found (34 ∷ bs) s
text_shaped bs step.End h = absurd h
text_shaped bs (step.Gap k) h = absurd h
text_shaped bs (step.Token kind n) h =
    let is : (34 ∷ (h.1 ++ 34 ∷ [])) ++ h.2 ≡ 34 ∷ bs = ap (λ xs. 34 ∷ xs) (append_assoc h.1 (34 ∷ []) h.2 ∙ h.3) in (
      34 ∷ (h.1 ++ 34 ∷ []),
      h.2,
      is,
      omega (arith, length-append h.1 (34 ∷ []), h.4),
      subst (λ k. Shaped k (34 ∷ (h.1 ++ 34 ∷ [])) h.2) (sym h.0) (record { form = (h.1, h.5, refl); written = λ k. absurd cc; small = λ k. absurd cc; closed = λ k. h.6 }),
    )
text_shaped bs step.BadByte h = tt
text_shaped bs step.Unclosed h = text h
text_shaped bs step.TooWide h = absurd h

pub text_step_found : (bs : List ℕ) → Found (34 ∷ bs) (text_from false 0 bs)
text_step_found bs = text_shaped bs (text_from false 0 bs) (text_found false 0 bs)

-- the body of a text is passed over
pub text_passed : (at : ℕ) (body rest : List ℕ) → IsTextBody body → text_from false at (body ++ rest) ≡ text_from false (at + length body) rest
text_passed at _ rest none = ap (λ n. text_from false n rest) (omega arith)
text_passed at _ rest (pair {bs = bs} p) = text_passed (at + 1 + 1) bs rest p ∙ ap (λ n. text_from false n rest) (omega arith)
text_passed at _ rest (byte {b = b} {bs = bs} e p) = rw e (text_passed (at + 1) bs rest p ∙ ap (λ n. text_from false n rest) (omega arith))

token_is : (k l : Kind) (m n : ℕ) → step.Token k m ≡ step.Token l n → m ≡ n
token_is k l m n e = cc

-- a text ends behind the place
pub text_least : (skip : Bool) (at : ℕ) (bs : List ℕ) (k : Kind) (n : ℕ) → text_from skip at bs ≡ step.Token k n → at + 1 < n
text_least skip at bs k n e = least skip at bs (text_from skip at bs) k n (text_found skip at bs) e
  where
    least : (skip : Bool) (at : ℕ) (bs : List ℕ) (s : Step) (k : Kind) (n : ℕ) → TextFound skip at bs s → s ≡ step.Token k n → at + 1 < n
    least skip at bs step.End k n h e = absurd h
    least skip at bs (step.Gap j) k n h e = absurd h
    least skip at bs (step.Token l m) k n h e = let i : m ≡ n = token_is l k m n e in omega (arith, h.4, i)
    least skip at bs step.BadByte k n h e = absurd cc
    least skip at bs step.Unclosed k n h e = absurd cc
    least skip at bs step.TooWide k n h e = absurd h

literal_text : (l : ℕ) (body : List ℕ) (c : ℕ) (cs more bs : List ℕ) → body ++ c ∷ cs ≡ bs → c ≡ 39 → cs ≡ l ∷ more → (39 ∷ (body ++ 39 ∷ l ∷ [])) ++ more ≡ 39 ∷ bs
literal_text l body c cs more bs is k m =
    let e : body ++ 39 ∷ l ∷ more ≡ bs = cc in
    ap (λ xs. 39 ∷ xs) (append_assoc body (39 ∷ l ∷ []) more ∙ e)

literal_length : (l : ℕ) (body : List ℕ) → suc (length (body ++ 39 ∷ l ∷ [])) ≡ length body + 3
literal_length l body = omega (arith, length-append body (39 ∷ l ∷ []))

-- what a literal in apostrophes is, by what follows its digits
ended_found : (body rest bs : List ℕ) (bits : ℕ) → body ++ rest ≡ bs → list_all is_hex_or_white body ≡ true → (bits ≡ length body → list_all is_bit_or_white body ≡ true) → Found (39 ∷ bs) (ended_step (length body) bits rest)
ended_found body [] bs bits is h f = digits (subst (λ xs. list_all is_hex_or_white xs ≡ true) (sym (append-nil body) ∙ is) h)
ended_found body (c ∷ cs) bs bits is h f =
    cond_both (c == 39 && starts_with 72 cs) _ _ (Found (39 ∷ bs))
    (λ e. let t = and_parts (c == 39) (starts_with 72 cs) e in
    let m = first_byte 72 cs t.1 in (
      39 ∷ (body ++ 39 ∷ 72 ∷ []),
      m.0,
      literal_text 72 body c cs m.0 bs is (eqb-true c 39 t.0) m.1,
      literal_length 72 body,
      record { form = (body, h, refl); written = λ k. absurd cc; small = λ k. absurd cc; closed = λ k. absurd cc },
    ))
    (λ n. cond_both (c == 39 && starts_with 66 cs && bits == length body) _ _ (Found (39 ∷ bs))
    (λ e. let t = and_parts (c == 39 && starts_with 66 cs) (bits == length body) e in
    let u = and_parts (c == 39) (starts_with 66 cs) t.0 in
    let m = first_byte 66 cs u.1 in (
      39 ∷ (body ++ 39 ∷ 66 ∷ []),
      m.0,
      literal_text 66 body c cs m.0 bs is (eqb-true c 39 u.0) m.1,
      literal_length 66 body,
      record { form = (body, f (eqb-true bits (length body) t.1), refl); written = λ k. absurd cc; small = λ k. absurd cc; closed = λ k. absurd cc },
    ))
    (λ e. tt))

pub digits_found : (bs : List ℕ) → Found (39 ∷ bs) (digits_step bs)
unfolding digits_step
digits_found bs =
    let n = run_len is_hex_or_white bs in
    let len : length (take n bs) ≡ n = omega (arith, length-take n bs, run_bound is_hex_or_white bs) in
    subst (λ k. Found (39 ∷ bs) (ended_step k (run_len is_bit_or_white bs) (drop n bs))) len
    (ended_found (take n bs) (drop n bs) bs (run_len is_bit_or_white bs) (take-append-drop n bs) (run_all is_hex_or_white bs)
    (λ k. subst (λ (j : ℕ). list_all is_bit_or_white (take j bs) ≡ true) (k ∙ len) (run_all is_bit_or_white bs)))

bit_is_hex : (b : ℕ) → is_bit_or_white b ≡ true → is_hex_or_white b ≡ true
bit_is_hex b e = grind (arith, nat_tests)

pub bits_are_hex : (bs : List ℕ) → list_all is_bit_or_white bs ≡ true → list_all is_hex_or_white bs ≡ true
bits_are_hex [] e = refl
bits_are_hex (b ∷ bs) e = let t = and_parts (is_bit_or_white b) (list_all is_bit_or_white bs) e in both_true (bit_is_hex b t.0) (bits_are_hex bs t.1)

pub hex_step : (body rest : List ℕ) → list_all is_hex_or_white body ≡ true → digits_step (body ++ 39 ∷ 72 ∷ rest) ≡ step.Token Hex (length body + 3)
unfolding digits_step
hex_step body rest h = rw (run_exact is_hex_or_white body (39 ∷ 72 ∷ rest) h refl, drop-append_seam body (39 ∷ 72 ∷ rest)) refl

pub bits_step : (body rest : List ℕ) → list_all is_bit_or_white body ≡ true → digits_step (body ++ 39 ∷ 66 ∷ rest) ≡ step.Token Bits (length body + 3)
unfolding digits_step
bits_step body rest h =
    rw (run_exact is_hex_or_white body (39 ∷ 66 ∷ rest) (bits_are_hex body h) refl, run_exact is_bit_or_white body (39 ∷ 66 ∷ rest) h refl, drop-append_seam body (39 ∷ 66 ∷ rest), eq-eqb (length body) (length body) refl) refl

pub open_step : (body : List ℕ) → list_all is_hex_or_white body ≡ true → digits_step body ≡ step.Unclosed
unfolding digits_step
open_step body h =
    let run : run_len is_hex_or_white body ≡ length body = subst (λ xs. run_len is_hex_or_white xs ≡ length body) (append-nil body) (run_exact is_hex_or_white body [] h refl) in
    rw (run, drop-length body) refl
