-- The table of slots says what answers.
use Rattle.std.proofs.Common.{◌≡◌, ℕ, zero, suc, ◌<◌, length, get_or, set, Bool, true, false, ◌&&◌, ◌||◌, List, [], ◌∷◌, ◌++◌, Option, Some, None, refl, sym, ap, ◌∙◌, subst, nat_eq, inl, inr}
use mathlib.Core.Logic.{◌⊎◌, ⊎_elim}
use Rattle.std.proofs.lemmas.Bool.{eqb-true, eqb-false, eq-eqb, and_from, true≢false, or_left, or_right}
use Rattle.std.proofs.lemmas.List.{get_or-set_same, get_or-set_other}
use Rattle.std.proofs.lemmas.Option.{unwrap_or-slice_get}
use Rattle.std.specs.Prelude.{if◌then◌else◌, slice_get, unwrap_or}
use Rattle.acn_compare.specs.Accepts.{Answering, answers, answering, slot_pair, Place}
use Rattle.acn_compare.specs.Judging.{last_of}
use Rattle.acn_compare.specs.Tests.{Slots, is_that, Tells}

pub last_of-append : (as' bs : Answering) (s : ℕ) (o : Option ℕ) → last_of (as' ++ bs) s o ≡ last_of bs s (last_of as' s o)
last_of-append [] bs s o = refl
last_of-append (a ∷ as') bs s o = last_of-append as' bs s (if nat_eq a.0 s then Some a.1 else o)

-- What is found last answers; or nothing does, and what was found before stays.
abbrev Found : Answering → (s : ℕ) → Option ℕ → Type 0
Found by s o = ((u : ℕ) × (last_of by s o ≡ Some u) × (answers by s u ≡ true)) ⊎ ((last_of by s o ≡ o) × ((t : ℕ) → answers by s t ≡ false))

found_next : (a : ℕ × ℕ) (as' : Answering) (s : ℕ) (o : Option ℕ) → ((p : Option ℕ) → Found as' s p) → (b : Bool) → nat_eq a.0 s ≡ b → Found (a ∷ as') s o
found_next a as' s o behind true e = ⊎_elim
    (λ l. inl (l.0, ap (λ b. last_of as' s (if b then Some a.1 else o)) e ∙ l.1, or_right (nat_eq a.0 s && nat_eq a.1 l.0) (answers as' s l.0) l.2))
    (λ l. inl (a.1, ap (λ b. last_of as' s (if b then Some a.1 else o)) e ∙ l.0, or_left (nat_eq a.0 s && nat_eq a.1 a.1) (answers as' s a.1) (and_from (nat_eq a.0 s) (nat_eq a.1 a.1) e (eq-eqb a.1 a.1 refl))))
    (behind (Some a.1))
found_next a as' s o behind false e = ⊎_elim
    (λ l. inl (l.0, ap (λ b. last_of as' s (if b then Some a.1 else o)) e ∙ l.1, or_right (nat_eq a.0 s && nat_eq a.1 l.0) (answers as' s l.0) l.2))
    (λ l. inr (ap (λ b. last_of as' s (if b then Some a.1 else o)) e ∙ l.0, λ t. ap (λ b. (b && nat_eq a.1 t) || answers as' s t) e ∙ l.1 t))
    (behind o)

found_last : (by : Answering) (s : ℕ) (o : Option ℕ) → Found by s o
found_last [] s o = inr (refl, λ t. refl)
found_last (a ∷ as') s o = found_next a as' s o (λ p. found_last as' s p) (nat_eq a.0 s) refl

-- each slot of the older grammar has one that answers to it, at most
abbrev pub IsOne : Answering → Type 0
IsOne by = (s t t' : ℕ) → answers by s t ≡ true → answers by s t' ≡ true → t ≡ t'

abbrev is_it : ℕ → Option ℕ → Bool
is_it t None = false
is_it t (Some u) = nat_eq u t

that_is : (t : ℕ) (o : Option (Option ℕ)) → is_that t o ≡ is_it t (unwrap_or o None)
that_is t None = refl
that_is t (Some None) = refl
that_is t (Some (Some u)) = refl

tells_one : (by : Answering) → IsOne by → (s t : ℕ) → is_it t (last_of by s None) ≡ answers by s t
tells_one by one s t = ⊎_elim (λ l. ap (is_it t) l.1 ∙ same l.0 l.2 (nat_eq l.0 t) refl (answers by s t) refl) (λ l. ap (is_it t) l.0 ∙ sym (l.1 t)) (found_last by s None)
  where
    same : (u : ℕ) → answers by s u ≡ true → (a : Bool) → nat_eq u t ≡ a → (b : Bool) → answers by s t ≡ b → nat_eq u t ≡ answers by s t
    same u h true e true f = e ∙ sym f
    same u h true e false f = absurd (true≢false (sym (subst (λ z. answers by s z ≡ true) (eqb-true u t e) h) ∙ f))
    same u h false e true f = absurd (true≢false (sym (eq-eqb u t (one s u t h f)) ∙ e))
    same u h false e false f = e ∙ sym f

pub slots_tell : (by : Answering) (slots : Slots) → IsOne by → ((s : ℕ) → unwrap_or (slice_get slots s) None ≡ last_of by s None) → Tells by slots
slots_tell by slots one same s t = that_is t (slice_get slots s) ∙ ap (is_it t) (same s) ∙ tells_one by one s t

-- The table as it grows.

pub room : (xs : List (Option ℕ)) (s : ℕ) → unwrap_or (slice_get (xs ++ None ∷ []) s) None ≡ unwrap_or (slice_get xs s) None
room [] zero = refl
room [] (suc s) = refl
room (x ∷ xs) zero = refl
room (x ∷ xs) (suc s) = room xs s

pub noted : (xs : List (Option ℕ)) (i s : ℕ) (v : Option ℕ) → i < length xs → unwrap_or (slice_get (set xs i v) s) None ≡ (if nat_eq i s then v else unwrap_or (slice_get xs s) None)
noted xs i s v l = by (nat_eq i s) refl
  where
    by : (b : Bool) → nat_eq i s ≡ b → unwrap_or (slice_get (set xs i v) s) None ≡ (if nat_eq i s then v else unwrap_or (slice_get xs s) None)
    by true e = rw e (unwrap_or-slice_get (set xs i v) s None ∙ ap (λ j. get_or (set xs i v) j None) (sym (eqb-true i s e)) ∙ get_or-set_same xs i v None l)
    by false e = rw e (unwrap_or-slice_get (set xs i v) s None ∙ get_or-set_other xs i s v None (λ q. eqb-false i s e (sym q)) ∙ sym (unwrap_or-slice_get xs s None))

-- the pairs of a place, and of those behind it
pub pairs_first : (p : Place) (ps : List Place) (s : ℕ) (o : Option ℕ) → last_of (answering (p ∷ ps)) s o ≡ last_of (answering ps) s (last_of (slot_pair p.old_slot p.new_slot) s o)
pairs_first p ps s o = last_of-append (slot_pair p.old_slot p.new_slot) (answering ps) s o
