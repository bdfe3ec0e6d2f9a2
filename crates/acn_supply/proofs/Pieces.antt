-- Line feeds, and lines that come in pieces.
use Rattle.std.proofs.Common.{◌≡◌, ℕ, zero, suc, ◌+◌, ◌-◌, ◌<◌, ◌≤◌, ◌==◌, not, Bool, true, false, List, [], ◌∷◌, ◌++◌, Option, Err, length, take, drop, subst, sym, ap, refl, ◌∙◌, arith, length-take, length-append, take-append-drop, append_assoc, append-nil}
use Rattle.std.specs.Cmp.Derive.{both_true}
use Rattle.std.proofs.lemmas.Bool.{and_parts, eqb-true}
use Rattle.std.proofs.lemmas.List.Folds.{list_all-append}
use Rattle.memchr.specs.Find.{Passes, is_byte}
use Rattle.acn_outside.specs.Moves.{Takes}
use Rattle.acn_supply.specs.Cutting.{IsOneLine, IsTooLong, GetsSome, ReadsLine, FindsNone, FindsTooMuch, Appends, StepsOn}
use Rattle.acn_supply.specs.Reading.{Supplied, Grows}
use Rattle.acn_supply.proofs.Moving.{takes_nothing, takes_more}
use Rattle.acn_supply.specs.declared.lines.NoLine.{NoLine}
use Rattle.acn_supply.specs.declared.lines.NoLine.TheVariants.{TooLong, PastLimit, Failed, NoMemory}
use Rattle.acn_supply.specs.declared.lines.TheConstants.{MOST_LINE_BYTES}
use Rattle.acn_supply.specs.declared.window.TheConstants.{MOST_IN_HAND}

-- ---- line feeds

pub one_append : (a b : List ℕ) → IsOneLine a → IsOneLine b → IsOneLine (a ++ b)
one_append a b x y = list_all-append (λ b. not (b == 10)) a b ∙ both_true x y

pub one_take : (n : ℕ) (a : List ℕ) → IsOneLine a → IsOneLine (take n a)
one_take zero a x = refl
one_take (suc n) [] x = refl
one_take (suc n) (b ∷ a) x = let parts = and_parts (not (b == 10)) _ x in both_true parts.0 (one_take n a parts.1)

no_feed : (b : ℕ) → (is_byte 10 b ≡ true → ⊥) → not (b == 10) ≡ true
no_feed b h = by_test (b == 10) refl
  where
    by_test : (t : Bool) → (b == 10) ≡ t → not t ≡ true
    by_test true e = absurd (h e)
    by_test false e = refl

-- no byte below a place is a line feed
pub one_below : (bytes : List ℕ) (k : ℕ) → ((j : ℕ) → j < k → Passes (is_byte 10) bytes j → ⊥) → IsOneLine (take k bytes)
one_below bytes zero h = refl
one_below [] (suc k) h = refl
one_below (b ∷ bytes) (suc k) h = both_true (no_feed b (h 0 (omega arith))) (one_below bytes k (λ j less. h (suc j) (omega arith)))

is_feed : (b : ℕ) → is_byte 10 b ≡ true → b ≡ 10
is_feed b h = eqb-true b 10 h

pub cut_there : (bytes : List ℕ) (k : ℕ) → k < length bytes → Passes (is_byte 10) bytes k → bytes ≡ take k bytes ++ 10 ∷ drop (k + 1) bytes
cut_there [] k inside h = absurd (omega arith)
cut_there (b ∷ bytes) zero inside h = ap (λ x. x ∷ bytes) (is_feed b h)
cut_there (b ∷ bytes) (suc k) inside h =
    let on : suc k + 1 ≡ suc (k + 1) = omega arith in
    ap (λ t. b ∷ t) (cut_there bytes k (omega arith) h) ∙ ap (λ n. b ∷ take k bytes ++ 10 ∷ drop n (b ∷ bytes)) (sym on)

-- ---- pieces of a line

-- Of the input some bytes were taken, and what was in hand and they are the line so far, and what is in hand now.
pub record SoFar (before now : Supplied) (i i' : Option (List ℕ)) (line : List ℕ) : Type 0 where
  pub given : List ℕ
  pub taken : Takes i i' given
  pub counted : now.left + length given ≡ before.left
  pub whole : before.hand ++ given ≡ line ++ now.hand
  pub one : IsOneLine line
  pub few : length line ≤ MOST_LINE_BYTES

pub begins : (s : Supplied) (i : Option (List ℕ)) → SoFar s s i i []
begins s i = record { given = []; taken = takes_nothing i; counted = omega arith; whole = append-nil s.hand; one = refl; few = omega arith }

-- nothing is in hand any more
pub steps_on : (before now mid : Supplied) (i i' : Option (List ℕ)) (line new : List ℕ) → SoFar before now i i' line → FindsNone now.hand mid.hand line new → mid.left ≡ now.left → SoFar before mid i i' new
steps_on before now mid i i' line new s f left = record {
  given = s.given;
  taken = s.taken;
  counted = omega (arith, s.counted, left);
  whole = s.whole ∙ sym f.added ∙ sym (append-nil new) ∙ ap (λ (t : List ℕ). new ++ t) (sym f.none_left);
  one = subst IsOneLine (sym f.added) (one_append line now.hand s.one f.one);
  few = f.few;
}

pub grows_on : (before mid after : Supplied) (i i' i'' : Option (List ℕ)) (line : List ℕ) → SoFar before mid i i' line → Grows mid after i' i'' → SoFar before after i i'' line
grows_on before mid after i i' i'' line s m = record {
  given = s.given ++ m.given;
  taken = takes_more i i' i'' s.given m.given s.taken m.taken;
  counted = omega (arith, s.counted, m.counted, length-append s.given m.given);
  whole = sym (append_assoc before.hand s.given m.given) ∙ ap (λ (t : List ℕ). t ++ m.given) s.whole ∙ append_assoc line mid.hand m.given ∙ ap (λ (t : List ℕ). line ++ t) (sym m.added);
  one = s.one;
  few = s.few;
}

pub too_long : (before now mid : Supplied) (i i' : Option (List ℕ)) (line : List ℕ) → SoFar before now i i' line → FindsTooMuch now.hand line → mid.left ≡ now.left → length now.hand ≤ MOST_IN_HAND → IsTooLong before mid i i'
too_long before now mid i i' line s f left near = record {
  given = s.given;
  front = line ++ f.front;
  back = f.back;
  gets = record { taken = s.taken; counted = omega (arith, s.counted, left) };
  cut = s.whole ∙ ap (λ (t : List ℕ). line ++ t) f.cut ∙ sym (append_assoc line f.front f.back);
  one = one_append line f.front s.one f.one;
  many = f.many;
  near = omega (arith, near, ap length f.cut, length-append f.front f.back);
}

pub gets_some : (before now mid : Supplied) (i i' : Option (List ℕ)) (line : List ℕ) → SoFar before now i i' line → mid.left ≡ now.left → length now.hand ≤ MOST_IN_HAND → GetsSome before mid i i'
gets_some before now mid i i' line s left near = record {
  given = s.given;
  gets = record { taken = s.taken; counted = omega (arith, s.counted, left) };
  ahead = record { front = line; behind = now.hand; whole = s.whole; one = s.one; near = near };
}

-- ---- a step through what is in hand

-- a front of the bytes is as long as no line may be
pub too_much : (hand piece tail old : List ℕ) → hand ≡ piece ++ tail → IsOneLine piece → length old ≤ MOST_LINE_BYTES → MOST_LINE_BYTES < length old + length piece → FindsTooMuch hand old
too_much hand piece tail old whole one few many =
    let n = MOST_LINE_BYTES + 1 - length old in
    record {
      front = take n piece;
      back = drop n piece ++ tail;
      cut = whole ∙ ap (λ (t : List ℕ). t ++ tail) (sym (take-append-drop n piece)) ∙ append_assoc (take n piece) (drop n piece) tail;
      one = one_take n piece one;
      many = length-append old (take n piece) ∙ (simp length-take (omega (arith, few, many)));
    }

pub append_stops : (hand left piece tail old new : List ℕ) (f : NoLine) → Appends (Err f) old piece new → hand ≡ piece ++ tail → IsOneLine piece → length old ≤ MOST_LINE_BYTES → StepsOn (Err f) hand left old new
append_stops hand left piece tail old new TooLong a whole one few = too_much hand piece tail old whole one few a
append_stops hand left piece tail old new NoMemory a whole one few = tt
append_stops hand left piece tail old new PastLimit a whole one few = absurd a
append_stops hand left piece tail old new Failed a whole one few = absurd a

pub stopped : (before now mid : Supplied) (i i' : Option (List ℕ)) (line new : List ℕ) (f : NoLine) → SoFar before now i i' line → StepsOn (Err f) now.hand mid.hand line new → mid.left ≡ now.left → length now.hand ≤ MOST_IN_HAND → ReadsLine before mid i i' (Err f) new
stopped before now mid i i' line new TooLong s f left near = too_long before now mid i i' line s f left near
stopped before now mid i i' line new NoMemory s f left near = gets_some before now mid i i' line s left near
stopped before now mid i i' line new PastLimit s f left near = absurd f
stopped before now mid i i' line new Failed s f left near = absurd f
