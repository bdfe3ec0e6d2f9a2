-- A loop that reads items, beside `many`.
use Rattle.std.proofs.Common.{◌≡◌, ℕ, zero, suc, ◌+◌, ◌-◌, ◌<◌, ◌≤◌, Bool, true, false, List, [], ◌∷◌, ◌++◌, Ok, Err, refl, sym, ap, ◌∙◌, append_assoc, arith}
use Rattle.std.proofs.lemmas.List.{append-nil}
use Rattle.acn_lex.specs.Lexeme.{Lexeme}
use Rattle.acn_cursor.specs.declared.stop.Stop.{Stop}
use Rattle.acn_cursor.specs.declared.stop.Stop.TheVariants.{Refused, NoMemory}
use Rattle.acn_cursor.specs.Steps.{Parser, Outcome, and_then, pure, repeat, with_front, Fails}

module _ {A : Type 0} (goes : List Lexeme → Bool) (item : Parser A) where
  abbrev pub left_of : ℕ → ℕ → List Lexeme → Outcome (List A)
  left_of n at ts = repeat goes item (n - at) ts

  abbrev pub some_of : List A → List Lexeme → Outcome (List A)
  some_of z r = Ok (z, r)

  regroup : (front : List A) (x : A) (o : Outcome (List A)) → with_front front (and_then o (λ xs. pure (x ∷ xs))) ≡ with_front (front ++ x ∷ []) o
  regroup front x (Err left) = refl
  regroup front x (Ok p) = ap (λ (z : List A). some_of z p.1) (sym (append_assoc front (x ∷ []) p.0))

  -- one more item
  pub goes_on : (front : List A) (n at : ℕ) (ts : List Lexeme) (x : A) (r : List Lexeme) (whole : Outcome (List A)) → at < n → goes ts ≡ true → item ts ≡ Ok (x, r)
      → with_front front (left_of n at ts) ≡ whole → with_front (front ++ x ∷ []) (left_of n (at + 1) r) ≡ whole
  goes_on front n at ts x r whole lt g e h =
      let k : n - at ≡ suc (n - (at + 1)) = omega arith in
      let one : with_front front (left_of n at ts) ≡ with_front (front ++ x ∷ []) (left_of n (at + 1) r) = rw (k, g, e) (regroup front x (left_of n (at + 1) r)) in
      sym one ∙ h

  -- no more, since the test says so
  pub stops : (front : List A) (n at : ℕ) (ts : List Lexeme) (whole : Outcome (List A)) → goes ts ≡ false
      → with_front front (left_of n at ts) ≡ whole → whole ≡ Ok (front, ts)
  stops front n at ts whole g h = sym h ∙ ap (with_front front) (ended (n - at)) ∙ ap (λ (z : List A). some_of z ts) (append-nil front)
    where
      ended : (k : ℕ) → repeat goes item k ts ≡ some_of [] ts
      ended zero = refl
      ended (suc k) = rw g refl

  -- or since each turn was taken
  pub is_done : (front : List A) (n at : ℕ) (ts : List Lexeme) (whole : Outcome (List A)) → n ≤ at
      → with_front front (left_of n at ts) ≡ whole → whole ≡ Ok (front, ts)
  is_done front n at ts whole le h =
      let k : n - at ≡ 0 = omega arith in
      let one : with_front front (left_of n at ts) ≡ some_of front ts = rw k (ap (λ (z : List A). some_of z ts) (append-nil front)) in
      sym h ∙ one

  left_none : (n at left : ℕ) (ts : List Lexeme) → at < n → goes ts ≡ true → item ts ≡ Err left → left_of n at ts ≡ Err left
  left_none n at left ts lt g e = let k : n - at ≡ suc (n - (at + 1)) = omega arith in rw (k, g, e) refl

  -- an item that is refused
  pub refused : (f : Stop) (front : List A) (n at : ℕ) (ts : List Lexeme) (whole : Outcome (List A)) → at < n → goes ts ≡ true → Fails (item ts) f
      → with_front front (left_of n at ts) ≡ whole → Fails whole f
  refused (Refused left) front n at ts whole lt g e h = sym h ∙ ap (with_front front) (left_none n at left ts lt g e)
  refused NoMemory front n at ts whole lt g e h = tt
