-- Runs of bytes that pass a test, and the tails of words.
use Rattle.std.proofs.Common.{◌≡◌, ℕ, suc, ◌≤◌, Bool, true, false, not, cond, List, [], ◌∷◌, ◌++◌, length, take, drop, refl, arith}
use Rattle.std.proofs.lemmas.Bool.{and_parts, cond_both}
use Rattle.std.specs.List.{list_all}
use Rattle.std.specs.Cmp.Derive.{both_true}
use Rattle.acn_lex.specs.Bytes.{starts_alnum, continues}
use Rattle.acn_lex.specs.Scan.{run_len, word_len}
use Rattle.acn_lex.specs.Lexes.{is_tail}
use Rattle.acn_lex.proofs.ScanLemmas.{continues_if}

-- the first byte does not pass
abbrev pub stops : (ℕ → Bool) → List ℕ → Bool
stops p [] = true
stops p (b ∷ bs) = not (p b)

pub run_all : (p : ℕ → Bool) (bs : List ℕ) → list_all p (take (run_len p bs) bs) ≡ true
run_all p [] = refl
run_all p (b ∷ bs) = cond_both (p b) (suc (run_len p bs)) 0 (λ n. list_all p (take n (b ∷ bs)) ≡ true) (λ e. both_true e (run_all p bs)) (λ e. refl)

pub run_stops : (p : ℕ → Bool) (bs : List ℕ) → stops p (drop (run_len p bs) bs) ≡ true
run_stops p [] = refl
run_stops p (b ∷ bs) = cond_both (p b) (suc (run_len p bs)) 0 (λ n. stops p (drop n (b ∷ bs)) ≡ true) (λ e. run_stops p bs) (λ e. rw e refl)

pub run_bound : (p : ℕ → Bool) (bs : List ℕ) → run_len p bs ≤ length bs
run_bound p [] = omega arith
run_bound p (b ∷ bs) = cond_both (p b) (suc (run_len p bs)) 0 (λ n. n ≤ suc (length bs)) (λ e. omega (arith, run_bound p bs)) (λ e. omega arith)

-- bytes that pass, and then one that does not, are the run
pub run_exact : (p : ℕ → Bool) (xs rest : List ℕ) → list_all p xs ≡ true → stops p rest ≡ true → run_len p (xs ++ rest) ≡ length xs
run_exact p [] [] e h = refl
run_exact p [] (c ∷ cs) e h = turn (p c) refl h
  where
    turn : (t : Bool) → p c ≡ t → not t ≡ true → cond t (suc (run_len p cs)) 0 ≡ 0
    turn true k g = absurd cc
    turn false k g = refl
run_exact p (b ∷ bs) rest e h = let t = and_parts (p b) (list_all p bs) e in rw (t.0, run_exact p bs rest t.1 h) refl

pub run_within : (p : ℕ → Bool) (xs rest : List ℕ) → list_all p xs ≡ true → length xs ≤ run_len p (xs ++ rest)
run_within p [] rest e = omega arith
run_within p (b ∷ bs) rest e = let t = and_parts (p b) (list_all p bs) e in rw t.0 (omega (arith, run_within p bs rest t.1))

pub word_bound : (bs : List ℕ) → word_len bs ≤ length bs
word_bound [] = omega arith
word_bound (b ∷ bs) = cond_both (continues b bs) (suc (word_len bs)) 0 (λ n. n ≤ suc (length bs)) (λ e. omega (arith, word_bound bs)) (λ e. omega arith)

starts_more : (bs rest : List ℕ) → starts_alnum bs ≡ true → starts_alnum (bs ++ rest) ≡ true
starts_more [] rest e = absurd cc
starts_more (b ∷ bs) rest e = e

pub tail_within : (bs rest : List ℕ) → is_tail bs ≡ true → length bs ≤ word_len (bs ++ rest)
tail_within [] rest e = omega arith
tail_within (b ∷ bs) rest e =
    let t = and_parts (continues b bs) (is_tail bs) e in
    rw (continues_if b bs (bs ++ rest) (starts_more bs rest) t.0) (omega (arith, tail_within bs rest t.1))
