-- A word is the longest at its place.
use Rattle.std.proofs.Common.{◌≡◌, ℕ, zero, suc, ◌<◌, ◌≤◌, Bool, true, false, ◌&&◌, ◌||◌, ◌==◌, cond, List, [], ◌∷◌, length, take, refl, arith, ◌⊎◌, inl, inr}
use Rattle.std.specs.Cmp.Derive.{both_true}
use Rattle.std.specs.Char.{is_ascii_alphanumeric}
use Rattle.acn_lex.specs.Scan.{word_len}
use Rattle.acn_lex.specs.Bytes.{starts_alnum, continues}
use Rattle.std.proofs.lemmas.Bool.{and_parts, false_from_ne_true}

-- the form of a word behind its first letter: letters, digits and single hyphens, each before a letter or digit
abbrev pub is_tail : List ℕ → Bool
is_tail [] = true
is_tail (b ∷ bs) = continues b bs && is_tail bs

split : (a b : Bool) → (a || b) ≡ true → ((a ≡ true) ⊎ (b ≡ true))
split true b e = inl refl
split false b e = inr e

and_false : (a b : Bool) → b ≡ false → a && b ≡ false
and_false true b e = e
and_false false b e = refl

-- a letter or digit in front makes a word go on
starts_kept : (bs : List ℕ) → starts_alnum bs ≡ true → starts_alnum (take (word_len bs) bs) ≡ true
starts_kept [] e = absurd cc
starts_kept (b ∷ bs) e = let g : continues b bs ≡ true = rw e refl in rw g e

starts_back : (m : ℕ) (bs : List ℕ) → starts_alnum (take m bs) ≡ true → starts_alnum bs ≡ true
starts_back zero bs e = absurd cc
starts_back (suc m) [] e = absurd cc
starts_back (suc m) (b ∷ bs) e = e

pub continues_if : (b : ℕ) (bs cs : List ℕ) → (starts_alnum bs ≡ true → starts_alnum cs ≡ true) → continues b bs ≡ true → continues b cs ≡ true
continues_if b bs cs f e =
    elim (split (is_ascii_alphanumeric b) (b == 45 && starts_alnum bs) e) [
      | inl p ↦ rw p refl
      | inr p ↦ let q = and_parts (b == 45) (starts_alnum bs) p in rw (q.0, f q.1) (or_true (is_ascii_alphanumeric b))
    ]
  where
    or_true : (a : Bool) → (a || true) ≡ true
    or_true true = refl
    or_true false = refl

pub word_is : (bs : List ℕ) → is_tail (take (word_len bs) bs) ≡ true
word_is [] = refl
word_is (b ∷ bs) = turn (continues b bs) refl (word_is bs)
  where
    turn : (c : Bool) → continues b bs ≡ c → is_tail (take (word_len bs) bs) ≡ true → is_tail (take (cond c (suc (word_len bs)) 0) (b ∷ bs)) ≡ true
    turn true e h = both_true (continues_if b bs (take (word_len bs) bs) (starts_kept bs) e) h
    turn false e h = refl

pub word_longest : (bs : List ℕ) (m : ℕ) → word_len bs < m → m ≤ length bs → is_tail (take m bs) ≡ false
word_longest [] m h k = absurd (omega arith)
word_longest (b ∷ bs) zero h k = absurd (omega arith)
word_longest (b ∷ bs) (suc m) h k = turn (continues b bs) refl h (λ lt. word_longest bs m lt (omega arith))
  where
    turn : (c : Bool) → continues b bs ≡ c → cond c (suc (word_len bs)) 0 < suc m → (word_len bs < m → is_tail (take m bs) ≡ false) → continues b (take m bs) && is_tail (take m bs) ≡ false
    turn true e h f = and_false (continues b (take m bs)) (is_tail (take m bs)) (f (omega arith))
    turn false e h f = false_from_ne_true (continues b (take m bs) && is_tail (take m bs)) (λ t. let g : continues b bs ≡ true = continues_if b (take m bs) bs (starts_back m bs) (and_parts (continues b (take m bs)) (is_tail (take m bs)) t).0 in absurd cc)
