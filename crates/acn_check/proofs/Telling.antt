-- Answers that tell the first fault.
use Rattle.std.proofs.Common.{◌≡◌, ℕ, zero, suc, Bool, true, List, [], ◌∷◌, ◌++◌, Option, Some, None, Result, Err, sym, refl, ap, ◌∙◌, subst}
use Rattle.std.specs.Prelude.{MatchOption, slice_get}
use Rattle.std.specs.List.{list_all}
use Rattle.acn_grammar.specs.Check.{CheckFault}
use Rattle.acn_grammar.specs.Faults.{check_fault_of}
use Rattle.acn_grammar.specs.Slots.{first_of_two}
use Rattle.acn_grammar.specs.Walk.{Use}
use Rattle.acn_grammar.specs.declared.check_fault.CheckFault as program
use Rattle.acn_check.specs.First.{Told, first_of}
use Rattle.std.proofs.lemmas.Bool.{and_parts}

-- an answer of a part is one of the whole
pub told_as : (o whole : Option CheckFault) (e : program.CheckFault) → ((f : CheckFault) → o ≡ Some f → whole ≡ Some f) → Told o (Err e) → Told whole (Err e)
told_as o whole e more t = by (check_fault_of e) t
  where
    by : (c : Option CheckFault) → MatchOption c (Unit {0}) (λ f. o ≡ Some f) → MatchOption c (Unit {0}) (λ f. whole ≡ Some f)
    by None h = tt
    by (Some f) h = more f h

pub told_first : (o rest : Option CheckFault) (e : program.CheckFault) → Told o (Err e) → Told (first_of_two o rest) (Err e)
told_first o rest e t = told_as o (first_of_two o rest) e (λ f h. ap (λ p. first_of_two p rest) h) t

pub told_next : (o rest : Option CheckFault) (e : program.CheckFault) → o ≡ None → Told rest (Err e) → Told (first_of_two o rest) (Err e)
told_next o rest e n t = told_as rest (first_of_two o rest) e (λ f h. ap (λ p. first_of_two p rest) n ∙ h) t

-- Uses, tests first.

any_number : (p : Use → Option CheckFault) (k n : ℕ) (b : List Use) → first_of (λ u x. p x) k b ≡ first_of (λ u x. p x) n b
any_number p k n [] = refl
any_number p k n (x ∷ b) = ap (first_of_two (p x)) (any_number p (suc k) (suc n) b)

joined : (a b c : Option CheckFault) → first_of_two a (first_of_two b c) ≡ first_of_two (first_of_two a b) c
joined None b c = refl
joined (Some f) b c = refl

alone : (o : Option CheckFault) → first_of_two o None ≡ o
alone None = refl
alone (Some f) = refl

pub with_tests : (p : Use → Option CheckFault) (k m n : ℕ) (a b : List Use) → first_of (λ u x. p x) k (a ++ b) ≡ first_of_two (first_of (λ u x. p x) m a) (first_of (λ u x. p x) n b)
with_tests p k m n [] b = any_number p k n b
with_tests p k m n (x ∷ a) b = ap (first_of_two (p x)) (with_tests p (suc k) (suc m) n a b) ∙ joined (p x) (first_of (λ u x. p x) (suc m) a) (first_of (λ u x. p x) n b)

-- the tests have the fault
pub told_by_tests : (p : Use → Option CheckFault) (ts us : List Use) (e : program.CheckFault) → Told (first_of (λ u x. p x) 0 ts) (Err e) → Told (first_of (λ u x. p x) 0 (ts ++ us)) (Err e)
told_by_tests p ts us e t = subst (λ o. Told o (Err e)) (sym (with_tests p 0 0 0 ts us)) (told_first (first_of (λ u x. p x) 0 ts) (first_of (λ u x. p x) 0 us) e t)

-- they have none, and the form's use is what it is
pub told_by_form : (p : Use → Option CheckFault) (ts us : List Use) (use' : Use) (r : Result (Unit {0}) program.CheckFault) → first_of (λ u x. p x) 0 ts ≡ None → use' ∷ [] ≡ us → Told (p use') r → Told (first_of (λ u x. p x) 0 (ts ++ us)) r
told_by_form p ts us use' r n e t = subst (λ o. Told o r) (sym (with_tests p 0 0 0 ts us ∙ (ap (λ o. first_of_two o (first_of (λ u x. p x) 0 us)) n ∙ (ap (first_of (λ u x. p x) 0) (sym e) ∙ alone (p use'))))) t

-- each element of a list passes a test that all pass
pub all_at : {A : Type 0} (p : A → Bool) (xs : List A) (i : ℕ) (x : A) → list_all p xs ≡ true → slice_get xs i ≡ Some x → p x ≡ true
all_at p [] i x h e = cc
all_at p (y ∷ xs) zero x h e = (let f = and_parts (p y) (list_all p xs) h in let same : y ≡ x = cc in rw (← same) f.0)
all_at p (y ∷ xs) (suc i) x h e = all_at p xs i x (and_parts (p y) (list_all p xs) h).1 e
