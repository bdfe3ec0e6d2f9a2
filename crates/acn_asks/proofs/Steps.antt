-- One more ask: what is kept then, or that no number meets it.
use Rattle.std.proofs.Common.{◌≡◌, ℕ, ℤ, length, take, Bool, true, false, List, [], ◌∷◌, ◌++◌, refl, sym, ap, ◌∙◌, subst, arith, inl, inr, int_eq}
use Rattle.std.specs.Prelude.{◌⊎◌, Option, Some, None, ◌≤ℤ◌, MatchOption}
use Rattle.std.proofs.Math.Seq.{take-append_seam}
use Rattle.std.proofs.lemmas.Int.{ints}
use Rattle.acn_num.specs.Ranges.{has, In, among, IsLeastExcept}
use Rattle.acn_grammar.specs.Asks.{Ask, Equal, Avoid}
use Rattle.acn_grammar.specs.AsksOn.{MeetsAsk, Answers, Meetable, LeastAnswer}
use Rattle.acn_grammar.specs.Refused.{IsAsked, Contradicts}
use Rattle.acn_grammar.proofs.WholeTests.{eq_self}
use Rattle.acn_asks.specs.Kept.{OnlyAvoids, KeepsNumbers, Contradicted}
use Rattle.acn_asks.proofs.Lists.{asked_still, asked_last, from_either, none_asked, meets_all, meets_one, more, fewer, meets_last, stays, among_either, among_last, among_still}

at_most_same : (x y : ℤ) → y ≡ x → x ≤ℤ y
at_most_same x y e = omega (arith, ints)

not_both : (b : Bool) → b ≡ true → b ≡ false → ⊥
not_both b h g = cc

false_of : (b : Bool) → (b ≡ true → ⊥) → b ≡ false
false_of true h = absurd (h refl)
false_of false h = refl

equals : (m n : ℤ) → Equal m ≡ Equal n → m ≡ n
equals m n e = cc

avoids_same : (m n : ℤ) → Avoid m ≡ Avoid n → m ≡ n
avoids_same m n e = cc

not_equal : (m n : ℤ) → Equal m ≡ Avoid n → ⊥
not_equal m n e = cc

not_avoid : (m n : ℤ) → Avoid m ≡ Equal n → ⊥
not_avoid m n e = cc

pub not_same : (x y : ℤ) → int_eq x y ≡ false → x ≡ y → ⊥
not_same x y h e = not_both (int_eq x y) (ap (int_eq x) (sym e) ∙ eq_self x) h

-- whether a number is fixed, in other words
pub turned : {set : List (ℤ × ℤ)} {wanted : List Ask} {l : ℤ} {avoided : List ℤ} (b c : Bool) → b ≡ c → KeepsNumbers set wanted b l avoided → KeepsNumbers set wanted c l avoided
turned {set} {wanted} {l} {avoided} b c e k = subst (λ x. KeepsNumbers set wanted x l avoided) e k

pub listed : {set : List (ℤ × ℤ)} {wanted : List Ask} {l : ℤ} {fixed : Bool} (xs ys : List ℤ) → xs ≡ ys → KeepsNumbers set wanted fixed l xs → KeepsNumbers set wanted fixed l ys
listed {set} {wanted} {l} {fixed} xs ys e k = subst (λ x. KeepsNumbers set wanted fixed l x) e k

pub named : {set : List (ℤ × ℤ)} {wanted : List Ask} {w : Ask} (a b : Ask) → a ≡ b → Contradicted set wanted w (Some b) → Contradicted set wanted w (Some a)
named {set} {wanted} {w} a b e k = subst (λ x. Contradicted set wanted w (Some x)) (sym e) k

pub least_except-of : {set : List (ℤ × ℤ)} {x : ℤ} {xs ys : List ℤ} → xs ≡ ys → IsLeastExcept set xs x → IsLeastExcept set ys x
least_except-of {set} {x} e l = subst (λ zs. IsLeastExcept set zs x) e l

pub none_left-of : (set : List (ℤ × ℤ)) (xs ys : List ℤ) → xs ≡ ys → ((x : ℤ) → has set x ≡ true → among xs x ≡ true) → (x : ℤ) → has set x ≡ true → among ys x ≡ true
none_left-of set xs ys e l = subst (λ zs. (x : ℤ) → has set x ≡ true → among zs x ≡ true) e l

pub front_left : (count : ℕ) (all xs : List ℤ) (k : ℤ) (front : List ℤ) → count ≡ length xs → all ≡ xs ++ k ∷ [] → front ≡ take count all → front ≡ xs
front_left count all xs k front e f g = g ∙ (ap (λ n. take n all) e ∙ (ap (take (length xs)) f ∙ take-append_seam xs (k ∷ [])))

pub is_one : (xs ys : List ℤ) (b : Bool) (x : ℤ) → xs ≡ ys → b ≡ among xs x → among ys x ≡ b
is_one xs ys b x e h = ap (λ l. among l x) (sym e) ∙ sym h

module _ (set : List (ℤ × ℤ)) where
  -- Nothing is asked yet.

  pub nothing : (x : ℤ) → IsLeastExcept set [] x → KeepsNumbers set [] false x []
  nothing x l = record {
    answer = record { answers = record { permitted = l.member; meets = tt }; first = λ y a. l.least y a.permitted refl };
    fixes = record {
      no_equal = λ n i. none_asked (Equal n) i;
      avoids = λ k i. absurd (none_asked (Avoid k) i);
      asked = λ k h. absurd (not_both false h refl);
    };
  }

  pub no_number : ((x : ℤ) → has set x ≡ true → among [] x ≡ true) → (x : ℤ) → In set x → ⊥
  no_number h x i = not_both false (h x i) refl

  -- a first ask, where no number is permitted
  pub nothing_meets : ((x : ℤ) → In set x → ⊥) → (a : Ask) → Contradicted set [] a None
  nothing_meets h a = record { never = λ m. h m.0 m.1.permitted; because = λ b i c. none_asked b i }

  -- the least number where nothing is asked
  pub unasked : (r : Option ℤ) → MatchOption r ((x : ℤ) → has set x ≡ true → among [] x ≡ true) (λ x. IsLeastExcept set [] x) → (wanted : List Ask) → wanted ≡ []
      → MatchOption r (Meetable set wanted → ⊥) (λ x. LeastAnswer set wanted x)
  unasked None h wanted e = λ m. no_number h m.0 m.1.permitted
  unasked (Some x) h wanted e = subst (λ w. LeastAnswer set w x) (sym e) (nothing x h).answer

  module _ (wanted : List Ask) where
    -- A number is fixed.

    is_fixed : (m x : ℤ) → IsAsked wanted (Equal m) → (a : Ask) → Answers set (wanted ++ a ∷ []) x → x ≡ m
    is_fixed m x i a h = meets_one x wanted (Equal m) (fewer set wanted a x h).meets i

    pub equal_again : (m n : ℤ) (avoided : List ℤ) → KeepsNumbers set wanted true m avoided → m ≡ n → KeepsNumbers set (wanted ++ Equal n ∷ []) true m avoided
    equal_again m n avoided k e = record { answer = stays set wanted (Equal n) m k.answer e; fixes = asked_still wanted (Equal n ∷ []) (Equal m) k.fixes }

    pub equal_other : (m n : ℤ) (avoided : List ℤ) → KeepsNumbers set wanted true m avoided → (m ≡ n → ⊥) → Contradicted set wanted (Equal n) (Some (Equal m))
    equal_other m n avoided k e = record {
      never = λ h. e (sym (is_fixed m h.0 k.fixes (Equal n) h.1) ∙ meets_last set wanted (Equal n) h.0 h.1);
      because = (k.fixes, e);
    }

    pub avoid_other : (m n : ℤ) (avoided : List ℤ) → KeepsNumbers set wanted true m avoided → (m ≡ n → ⊥) → KeepsNumbers set (wanted ++ Avoid n ∷ []) true m avoided
    avoid_other m n avoided k e = record { answer = stays set wanted (Avoid n) m k.answer e; fixes = asked_still wanted (Avoid n ∷ []) (Equal m) k.fixes }

    pub avoid_fixed : (m n : ℤ) (avoided : List ℤ) → KeepsNumbers set wanted true m avoided → m ≡ n → Contradicted set wanted (Avoid n) (Some (Equal m))
    avoid_fixed m n avoided k e = record {
      never = λ h. meets_last set wanted (Avoid n) h.0 h.1 (is_fixed m h.0 k.fixes (Avoid n) h.1 ∙ e);
      because = (k.fixes, e);
    }

    -- Numbers are avoided.

    module _ (avoided : List ℤ) (only : OnlyAvoids wanted avoided) where
      -- what isn't avoided meets all
      free_meets : (x : ℤ) → among avoided x ≡ false → (a : Ask) → IsAsked wanted a → MeetsAsk x a
      free_meets x h (Equal n) i = absurd (only.no_equal n i)
      free_meets x h (Avoid k) i = λ e. not_both (among avoided x) (ap (among avoided) e ∙ only.avoids k i) h

      free_answers : (x : ℤ) → has set x ≡ true → among avoided x ≡ false → Answers set wanted x
      free_answers x p h = record { permitted = p; meets = meets_all x wanted (free_meets x h) }

      answers_free : (x : ℤ) → Answers set wanted x → among avoided x ≡ false
      answers_free x h = false_of (among avoided x) (λ g. meets_one x wanted (Avoid x) h.meets (only.asked x g) refl)

      pub equal_first : (n : ℤ) → among avoided n ≡ false → has set n ≡ true → KeepsNumbers set (wanted ++ Equal n ∷ []) true n avoided
      equal_first n h p = record {
        answer = record {
          answers = more set wanted (Equal n) n (free_answers n p h) refl;
          first = λ y a. at_most_same n y (meets_last set wanted (Equal n) y a);
        };
        fixes = asked_last wanted (Equal n);
      }

      pub equal_avoided : (n : ℤ) → among avoided n ≡ true → Contradicted set wanted (Equal n) (Some (Avoid n))
      equal_avoided n h = record {
        never = λ m. meets_one m.0 wanted (Avoid n) (fewer set wanted (Equal n) m.0 m.1).meets (only.asked n h) (meets_last set wanted (Equal n) m.0 m.1);
        because = (only.asked n h, refl, λ k i c. only.no_equal k i);
      }

      no_earlier : (n : ℤ) → among avoided n ≡ false → (a : Ask) → IsAsked wanted a → Contradicts a (Equal n) → ⊥
      no_earlier n h (Equal m) i c = only.no_equal m i
      no_earlier n h (Avoid m) i c = not_both (among avoided n) (ap (among avoided) (sym c) ∙ only.avoids m i) h

      pub equal_forbidden : (n : ℤ) → among avoided n ≡ false → has set n ≡ false → Contradicted set wanted (Equal n) None
      equal_forbidden n h p = record {
        never = λ m. not_both (has set n) (ap (has set) (sym (meets_last set wanted (Equal n) m.0 m.1)) ∙ m.1.permitted) p;
        because = no_earlier n h;
      }

      no_equal_more : (k n : ℤ) → IsAsked (wanted ++ Avoid k ∷ []) (Equal n) → ⊥
      no_equal_more k n i = from_either wanted (Avoid k) (Equal n) (λ e. not_equal n k e) (λ j. only.no_equal n j) i

      -- one that is avoided already
      pub only_again : (k : ℤ) → among avoided k ≡ true → OnlyAvoids (wanted ++ Avoid k ∷ []) avoided
      only_again k h = record {
        no_equal = λ n i. no_equal_more k n i;
        avoids = λ j i. from_either wanted (Avoid k) (Avoid j) (λ e. ap (among avoided) (avoids_same j k e) ∙ h) (λ i'. only.avoids j i') i;
        asked = λ j g. asked_still wanted (Avoid k ∷ []) (Avoid j) (only.asked j g);
      }

      -- one more
      only_more : (k : ℤ) → OnlyAvoids (wanted ++ Avoid k ∷ []) (avoided ++ k ∷ [])
      only_more k = record {
        no_equal = λ n i. no_equal_more k n i;
        avoids = λ j i. from_either wanted (Avoid k) (Avoid j)
            (λ e. ap (among (avoided ++ k ∷ [])) (avoids_same j k e) ∙ among_last avoided k)
            (λ i'. among_still avoided k j (only.avoids j i')) i;
        asked = λ j g. by j (among_either avoided k j g);
      }
        where
          by : (j : ℤ) → (j ≡ k) ⊎ (among avoided j ≡ true) → IsAsked (wanted ++ Avoid k ∷ []) (Avoid j)
          by j (inl e) = subst (λ x. IsAsked (wanted ++ Avoid k ∷ []) (Avoid x)) (sym e) (asked_last wanted (Avoid k))
          by j (inr g) = asked_still wanted (Avoid k ∷ []) (Avoid j) (only.asked j g)

      pub avoid_again : (l k : ℤ) → LeastAnswer set wanted l → among avoided k ≡ true → KeepsNumbers set (wanted ++ Avoid k ∷ []) false l avoided
      avoid_again l k a h = record {
        answer = stays set wanted (Avoid k) l a (meets_one l wanted (Avoid k) a.answers.meets (only.asked k h));
        fixes = only_again k h;
      }

      pub avoid_more : (l k : ℤ) → LeastAnswer set wanted l → (l ≡ k → ⊥) → KeepsNumbers set (wanted ++ Avoid k ∷ []) false l (avoided ++ k ∷ [])
      avoid_more l k a e = record { answer = stays set wanted (Avoid k) l a e; fixes = only_more k }

      -- the next one, where the least is to be avoided
      pub avoid_least : (x k : ℤ) → IsLeastExcept set (avoided ++ k ∷ []) x → KeepsNumbers set (wanted ++ Avoid k ∷ []) false x (avoided ++ k ∷ [])
      avoid_least x k l = record {
        answer = record {
          answers = more set wanted (Avoid k) x
              (free_answers x l.member (false_of (among avoided x) (λ g. not_both (among (avoided ++ k ∷ []) x) (among_still avoided k x g) l.free)))
              (λ e. not_both (among (avoided ++ k ∷ []) x) (ap (among (avoided ++ k ∷ [])) e ∙ among_last avoided k) l.free);
          first = λ y a. l.least y a.permitted (false_of (among (avoided ++ k ∷ []) y) (λ g. taken y a (among_either avoided k y g)));
        };
        fixes = only_more k;
      }
        where
          taken : (y : ℤ) → Answers set (wanted ++ Avoid k ∷ []) y → (y ≡ k) ⊎ (among avoided y ≡ true) → ⊥
          taken y a (inl e) = meets_last set wanted (Avoid k) y a e
          taken y a (inr g) = not_both (among avoided y) g (answers_free y (fewer set wanted (Avoid k) y a))

      no_earlier_avoid : (k : ℤ) → (a : Ask) → IsAsked wanted a → Contradicts a (Avoid k) → ⊥
      no_earlier_avoid k (Equal m) i c = only.no_equal m i
      no_earlier_avoid k (Avoid m) i c = c

      pub avoid_last : (k : ℤ) → ((x : ℤ) → has set x ≡ true → among (avoided ++ k ∷ []) x ≡ true) → Contradicted set wanted (Avoid k) None
      avoid_last k all = record {
        never = λ m. taken m.0 m.1 (among_either avoided k m.0 (all m.0 m.1.permitted));
        because = no_earlier_avoid k;
      }
        where
          taken : (y : ℤ) → Answers set (wanted ++ Avoid k ∷ []) y → (y ≡ k) ⊎ (among avoided y ≡ true) → ⊥
          taken y a (inl e) = meets_last set wanted (Avoid k) y a e
          taken y a (inr g) = not_both (among avoided y) g (answers_free y (fewer set wanted (Avoid k) y a))
