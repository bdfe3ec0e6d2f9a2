-- The same of numbers with an end behind them, character by character.
use Rattle.std.proofs.Common.{◌≡◌, ℕ, zero, suc, ◌+◌, ◌<◌, ◌≤◌, max, ℤ, Bool, List, [], ◌∷◌, ◌++◌, length, take, drop, Some, refl, sym, ap, ◌∙◌, arith, append_assoc, append-nil, length-append, inl, inr, ◌⊎◌, subst}
use Rattle.std.specs.List.{AllByRecursion}
use Rattle.acn_num.specs.Ranges.{In}
use Rattle.acn_grammar.specs.Code.{image_of, decimal_number, IsMinimal}
use Rattle.acn_grammar.specs.LeafFails.{Reason, short, out_of_range, not_minimal, bad_digit, too_long, NoneHas, DigitAt, EndAt, CharacterFails, cut, end_cut, digit_too_many, no_digit_no_end, end_alone, not_shortest, not_permitted, EndedFails}
use Rattle.acn_grammar.specs.declared.node.NumLeaf.{NumLeaf}
use Rattle.acn_grammar.proofs.Prefix.{same_front}
use Rattle.std.proofs.Math.Seq.{take-append_seam}

abbrev pub Digits : List ℕ → Type 0
Digits ds = AllByRecursion (λ d. d < 10) ds

-- how digits are coded, with an end that is no digit
pub record Coded (code : List ℕ → List Bool) (size : ℕ) (end : List Bool) : Type 0 where
  pub one : ℕ → List Bool
  pub none : code [] ≡ []
  pub step : (d : ℕ) (ds : List ℕ) → code (d ∷ ds) ≡ one d ++ code ds
  pub long : (d : ℕ) → length (one d) ≡ size
  pub tell : (d e : ℕ) → d < 10 → e < 10 → one d ≡ one e → d ≡ e
  pub apart : (d : ℕ) (more r : List Bool) → d < 10 → end ++ r ≡ one d ++ more → ⊥
  pub wide : size ≤ length end

take-drop : (n : ℕ) (xs : List Bool) → take n xs ++ drop n xs ≡ xs
take-drop zero xs = refl
take-drop (suc n) [] = refl
take-drop (suc n) (x ∷ xs) = ap (λ l. x ∷ l) (take-drop n xs)

module _ (code : List ℕ → List Bool) (size : ℕ) (end : List Bool) (coded : Coded code size end) where
  -- a digit stands at the front
  record Front (b : List Bool) : Type 0 where
    digit : ℕ
    below : digit < 10
    more : List Bool
    is : b ≡ coded.one digit ++ more

  one_code : (d : ℕ) → code (d ∷ []) ≡ coded.one d
  one_code d = coded.step d [] ∙ (ap (λ l. coded.one d ++ l) coded.none ∙ append-nil (coded.one d))

  front_at : (b : List Bool) → Front b → DigitAt code b
  front_at b f = record { digit = f.digit; below = f.below; stands = ap (λ l. take (length l) b) (one_code f.digit) ∙ (ap (take (length (coded.one f.digit))) f.is ∙ (take-append_seam (coded.one f.digit) f.more ∙ sym (one_code f.digit))) }

  at_front : (b : List Bool) → DigitAt code b → Front b
  at_front b f = record { digit = f.digit; below = f.below; more = drop (length (code (f.digit ∷ []))) b; is = sym (take-drop (length (code (f.digit ∷ []))) b) ∙ ap (λ l. l ++ drop (length (code (f.digit ∷ []))) b) (f.stands ∙ one_code f.digit) }

  end_no_digit : (b : List Bool) → EndAt end b → Front b → ⊥
  end_no_digit b e f = coded.apart f.digit f.more (drop (length end) b) f.below (ap (λ l. l ++ drop (length end) b) (sym e) ∙ (take-drop (length end) b ∙ f.is))

  front_long : (b : List Bool) → Front b → size ≤ length b
  front_long b f = let l = coded.long f.digit in let w = ap length f.is ∙ length-append (coded.one f.digit) f.more in omega arith

  -- two rows of digits at one front: they are one, or behind the shorter a digit stands
  split : (ds es : List ℕ) (b c : List Bool) → Digits ds → Digits es → code ds ++ b ≡ code es ++ c → ((ds ≡ es) × (b ≡ c)) ⊎ ((length ds < length es) × Front b) ⊎ ((length es < length ds) × Front c)
  split [] [] b c p q e = inl (refl, ap (λ l. l ++ b) (sym coded.none) ∙ (e ∙ ap (λ l. l ++ c) coded.none))
  split [] (x ∷ es) b c p q e = inr (inl (omega arith, record { digit = x; below = q.0; more = code es ++ c; is = ap (λ l. l ++ b) (sym coded.none) ∙ (e ∙ (ap (λ l. l ++ c) (coded.step x es) ∙ append_assoc (coded.one x) (code es) c)) }))
  split (x ∷ ds) [] b c p q e = inr (inr (omega arith, record { digit = x; below = p.0; more = code ds ++ b; is = ap (λ l. l ++ c) (sym coded.none) ∙ (sym e ∙ (ap (λ l. l ++ b) (coded.step x ds) ∙ append_assoc (coded.one x) (code ds) b)) }))
  split (x ∷ ds) (y ∷ es) b c p q e = by (split ds es b c p.1 q.1 f.1)
    where
      shifted : coded.one x ++ (code ds ++ b) ≡ coded.one y ++ (code es ++ c)
      shifted = sym (ap (λ l. l ++ b) (coded.step x ds) ∙ append_assoc (coded.one x) (code ds) b) ∙ (e ∙ (ap (λ l. l ++ c) (coded.step y es) ∙ append_assoc (coded.one y) (code es) c))

      f : (coded.one x ≡ coded.one y) × (code ds ++ b ≡ code es ++ c)
      f = same_front (coded.one x) (coded.one y) (code ds ++ b) (code es ++ c) (coded.long x ∙ sym (coded.long y)) shifted

      by : ((ds ≡ es) × (b ≡ c)) ⊎ ((length ds < length es) × Front b) ⊎ ((length es < length ds) × Front c) → ((x ∷ ds ≡ y ∷ es) × (b ≡ c)) ⊎ ((length (x ∷ ds) < length (y ∷ es)) × Front b) ⊎ ((length (y ∷ es) < length (x ∷ ds)) × Front c)
      by (inl h) = let first = coded.tell x y p.0 q.0 f.0 in let rest = h.0 in inl (cc, h.1)
      by (inr (inl h)) = inr (inl (omega (arith, h.0), h.1))
      by (inr (inr h)) = inr (inr (omega (arith, h.0), h.1))

  module _ (leaf : NumLeaf) (most : ℕ) (IsValue : ℕ → ℤ → Type 0) (value_one : (k : ℕ) (x y : ℤ) → IsValue k x → IsValue k y → x ≡ y) where
    abbrev Character : List ℕ → List Bool → Reason → ℕ → Type 0
    Character = CharacterFails leaf code size end most IsValue

    -- where a digit stands behind these, they are as many as there may be
    full : (ds : List ℕ) (b : List Bool) (r : Reason) (more : ℕ) → Front b → Character ds b r more → length ds ≡ most
    full ds b r more f (cut h) = let l = front_long b f in let s = h.0 in absurd (omega arith)
    full ds b r more f (end_cut h) = absurd (h.1 (front_at b f))
    full ds b r more f (digit_too_many h) = h.2
    full ds b r more f (no_digit_no_end h) = absurd (h.1 (front_at b f))
    full ds b r more f (end_alone h) = absurd (end_no_digit b h.1 f)
    full ds b r more f (not_shortest h) = absurd (end_no_digit b h.1 f)
    full ds b r more f (not_permitted h) = absurd (end_no_digit b h.1 f)

    abbrev Out : (len : ℕ) → List ℕ → Reason → ℕ → Type 0
    Out len ds r more =
        ((ds ≡ []) × (r ≡ bad_digit) × (more ≡ length end))
        ⊎ ((0 < length ds) × (IsMinimal ds × ((x : ℤ) × IsValue (decimal_number ds) x) → ⊥) × (r ≡ not_minimal) × (more ≡ length end))
        ⊎ (IsMinimal ds × ((x : ℤ) × IsValue (decimal_number ds) x × NoneHas leaf x × (r ≡ out_of_range x)) × (more ≡ length end))

    -- the reasons by what stands there: too few bits, a digit, neither, or the end
    abbrev Grouped : List ℕ → List Bool → Reason → ℕ → Type 0
    Grouped ds b r more =
        ((length b < size) × (r ≡ short) × (more ≡ length b))
        ⊎ ((size ≤ length b) × DigitAt code b × (r ≡ too_long) × (more ≡ size))
        ⊎ ((size ≤ length b) × (DigitAt code b → ⊥) × (EndAt end b → length b < length end) × (((length b < length end) × (r ≡ short) × (more ≡ length b)) ⊎ ((length end ≤ length b) × (r ≡ bad_digit) × (more ≡ max size (length end)))))
        ⊎ ((length end ≤ length b) × EndAt end b × Out (length b) ds r more)

    group : (ds : List ℕ) (b : List Bool) (r : Reason) (more : ℕ) → Character ds b r more → Grouped ds b r more
    group ds b r more (cut h) = inl h
    group ds b r more (end_cut h) = inr (inr (inl (h.0, h.1, (λ e. h.2), inl (h.2, h.3, h.4))))
    group ds b r more (digit_too_many h) = inr (inl (h.0, h.1, h.3, h.4))
    group ds b r more (no_digit_no_end h) = inr (inr (inl (h.0, h.1, (λ e. absurd (h.3 e)), inr (h.2, h.4, h.5))))
    group ds b r more (end_alone h) = inr (inr (inr (h.0, h.1, inl (h.2, h.3, h.4))))
    group ds b r more (not_shortest h) = inr (inr (inr (h.0, h.1, inr (inl (h.2, h.3, h.4, h.5)))))
    group ds b r more (not_permitted h) = inr (inr (inr (h.0, h.1, inr (inr (h.2, h.3, h.4)))))

    not_empty : (ds : List ℕ) → ds ≡ [] → IsMinimal ds → ⊥
    not_empty [] e m = m
    not_empty (d ∷ ds) e m = cc

    out_same : (len : ℕ) (ds : List ℕ) (r r' : Reason) (m n : ℕ) → Out len ds r m → Out len ds r' n → (r ≡ r') × (m ≡ n)
    out_same len ds r r' m n (inl p) (inl q) = (p.1 ∙ sym q.1, p.2 ∙ sym q.2)
    out_same len ds r r' m n (inl p) (inr (inl q)) = let a = ap length p.0 in let b = q.0 in absurd (omega arith)
    out_same len ds r r' m n (inl p) (inr (inr q)) = absurd (not_empty ds p.0 q.0)
    out_same len ds r r' m n (inr (inl p)) (inl q) = let a = ap length q.0 in let b = p.0 in absurd (omega arith)
    out_same len ds r r' m n (inr (inl p)) (inr (inl q)) = (p.2 ∙ sym q.2, p.3 ∙ sym q.3)
    out_same len ds r r' m n (inr (inl p)) (inr (inr q)) = absurd (p.1 (q.0, (q.1.0, q.1.1)))
    out_same len ds r r' m n (inr (inr p)) (inl q) = absurd (not_empty ds q.0 p.0)
    out_same len ds r r' m n (inr (inr p)) (inr (inl q)) = absurd (q.1 (p.0, (p.1.0, p.1.1)))
    out_same len ds r r' m n (inr (inr p)) (inr (inr q)) = (p.1.3 ∙ (ap out_of_range (value_one (decimal_number ds) p.1.0 q.1.0 p.1.1 q.1.1) ∙ sym q.1.3), p.2 ∙ sym q.2)

    grouped_same : (ds : List ℕ) (b : List Bool) (r r' : Reason) (m n : ℕ) → Grouped ds b r m → Grouped ds b r' n → (r ≡ r') × (m ≡ n)
    grouped_same ds b r r' m n (inl p) (inl q) = (p.1 ∙ sym q.1, p.2 ∙ sym q.2)
    grouped_same ds b r r' m n (inl p) (inr (inl q)) = let x = p.0 in let y = q.0 in absurd (omega arith)
    grouped_same ds b r r' m n (inl p) (inr (inr (inl q))) = let x = p.0 in let y = q.0 in absurd (omega arith)
    grouped_same ds b r r' m n (inl p) (inr (inr (inr q))) = let x = p.0 in let y = q.0 in let w = coded.wide in absurd (omega arith)
    grouped_same ds b r r' m n (inr (inl p)) (inl q) = let x = p.0 in let y = q.0 in absurd (omega arith)
    grouped_same ds b r r' m n (inr (inl p)) (inr (inl q)) = (p.2 ∙ sym q.2, p.3 ∙ sym q.3)
    grouped_same ds b r r' m n (inr (inl p)) (inr (inr (inl q))) = absurd (q.1 p.1)
    grouped_same ds b r r' m n (inr (inl p)) (inr (inr (inr q))) = absurd (end_no_digit b q.1 (at_front b p.1))
    grouped_same ds b r r' m n (inr (inr (inl p))) (inl q) = let x = p.0 in let y = q.0 in absurd (omega arith)
    grouped_same ds b r r' m n (inr (inr (inl p))) (inr (inl q)) = absurd (p.1 q.1)
    grouped_same ds b r r' m n (inr (inr (inl (p0, p1, p2, inl p)))) (inr (inr (inl (q0, q1, q2, inl q)))) = (p.1 ∙ sym q.1, p.2 ∙ sym q.2)
    grouped_same ds b r r' m n (inr (inr (inl (p0, p1, p2, inl p)))) (inr (inr (inl (q0, q1, q2, inr q)))) = let x = p.0 in let y = q.0 in absurd (omega arith)
    grouped_same ds b r r' m n (inr (inr (inl (p0, p1, p2, inr p)))) (inr (inr (inl (q0, q1, q2, inl q)))) = let x = p.0 in let y = q.0 in absurd (omega arith)
    grouped_same ds b r r' m n (inr (inr (inl (p0, p1, p2, inr p)))) (inr (inr (inl (q0, q1, q2, inr q)))) = (p.1 ∙ sym q.1, p.2 ∙ sym q.2)
    grouped_same ds b r r' m n (inr (inr (inl p))) (inr (inr (inr q))) = let x = p.2 q.1 in let y = q.0 in absurd (omega arith)
    grouped_same ds b r r' m n (inr (inr (inr p))) (inl q) = let x = p.0 in let y = q.0 in let w = coded.wide in absurd (omega arith)
    grouped_same ds b r r' m n (inr (inr (inr p))) (inr (inl q)) = absurd (end_no_digit b p.1 (at_front b q.1))
    grouped_same ds b r r' m n (inr (inr (inr p))) (inr (inr (inl q))) = let x = q.2 p.1 in let y = p.0 in absurd (omega arith)
    grouped_same ds b r r' m n (inr (inr (inr p))) (inr (inr (inr q))) = out_same (length b) ds r r' m n p.2 q.2

    pub ended_same : (rest : List Bool) (r r' : Reason) (m n : ℕ) → EndedFails leaf code size end most IsValue rest r m → EndedFails leaf code size end most IsValue rest r' n → (r ≡ r') × (m ≡ n)
    ended_same rest r r' m n p q = by (split p.digits q.digits p.behind q.behind p.are q.are (sym p.whole ∙ q.whole))
      where
        by : ((p.digits ≡ q.digits) × (p.behind ≡ q.behind)) ⊎ ((length p.digits < length q.digits) × Front p.behind) ⊎ ((length q.digits < length p.digits) × Front q.behind) → (r ≡ r') × (m ≡ n)
        by (inl h) =
            let one = grouped_same p.digits p.behind r r' p.more q.more (group p.digits p.behind r p.more p.fails) (subst (λ (b : List Bool). Grouped p.digits b r' q.more) (sym h.1) (subst (λ (ds : List ℕ). Grouped ds q.behind r' q.more) (sym h.0) (group q.digits q.behind r' q.more q.fails))) in
            let a = p.reaches in
            let b = q.reaches in
            let c : length (code p.digits) ≡ length (code q.digits) = ap (λ ds. length (code ds)) h.0 in
            let d = one.1 in
            (one.0, omega arith)
        by (inr (inl h)) = let a = full p.digits p.behind r p.more h.1 p.fails in let b = h.0 in let c = q.few in absurd (omega arith)
        by (inr (inr h)) = let a = full q.digits q.behind r' q.more h.1 q.fails in let b = h.0 in let c = p.few in absurd (omega arith)

    -- digits with the end behind them that code a permitted number
    pub ended_excl : (ds : List ℕ) (r : List Bool) (x y : ℤ) (reason : Reason) (reach : ℕ) → Digits ds → IsMinimal ds → length ds ≤ most → IsValue (decimal_number ds) y → In leaf.set x → image_of leaf x ≡ Some y → EndedFails leaf code size end most IsValue (code ds ++ (end ++ r)) reason reach → ⊥
    ended_excl ds r x y reason reach are minimal few value p m f = by (split ds f.digits (end ++ r) f.behind are f.are f.whole)
      where
        ends : EndAt end (end ++ r)
        ends = take-append_seam end r

        long : length (end ++ r) ≡ length end + length r
        long = length-append end r

        fails : Grouped ds (end ++ r) reason f.more → ⊥
        fails (inl h) = let a = h.0 in let b = long in let w = coded.wide in omega arith
        fails (inr (inl h)) = end_no_digit (end ++ r) ends (at_front (end ++ r) h.1)
        fails (inr (inr (inl h))) = let a = h.2 ends in let b = long in omega arith
        fails (inr (inr (inr (h0, h1, inl h)))) = not_empty ds h.0 minimal
        fails (inr (inr (inr (h0, h1, inr (inl h))))) = h.1 (minimal, (y, value))
        fails (inr (inr (inr (h0, h1, inr (inr h))))) = h.1.2 x p (m ∙ ap Some (value_one (decimal_number ds) y h.1.0 value h.1.1))

        by : ((ds ≡ f.digits) × (end ++ r ≡ f.behind)) ⊎ ((length ds < length f.digits) × Front (end ++ r)) ⊎ ((length f.digits < length ds) × Front f.behind) → ⊥
        by (inl h) = fails (subst (λ (b : List Bool). Grouped ds b reason f.more) (sym h.1) (subst (λ (es : List ℕ). Grouped es f.behind reason f.more) (sym h.0) (group f.digits f.behind reason f.more f.fails)))
        by (inr (inl h)) = end_no_digit (end ++ r) ends h.1
        by (inr (inr h)) = let a = full f.digits f.behind reason f.more h.1 f.fails in let b = h.0 in omega arith
