-- Conditions that ask two numbers of one slot don't hold together.
use Rattle.std.proofs.Common.{◌≡◌, ◌⊎◌, inl, inr, ℕ, suc, ℤ, pos, Bool, true, false, not, ◌&&◌, ◌||◌, List, [], ◌∷◌, ◌++◌, Option, Some, None, refl, sym, ap, ◌∙◌, subst, arith, nat_eq}
use Rattle.std.specs.Prelude.{option_map, if◌then◌else◌, Result, Ok, Err, IfOk}
use Rattle.std.specs.List.{list_any}
use Rattle.std.specs.Ordering.{int_eq, int_cmp, is_eq}
use Rattle.std.proofs.lemmas.Bool.{and_parts, or_parts, not-true, cases_Bool, eqb-true}
use Rattle.std.proofs.lemmas.Cmp.{int_cmp_total}
use Rattle.std.proofs.lemmas.Int.{ints}
use Rattle.acn_grammar.specs.Env.{Env, at_slot, Holds, AllHold}
use Rattle.acn_grammar.specs.Leaves.{all_differ}
use Rattle.acn_grammar.specs.Slots.{first_of_two}
use Rattle.acn_grammar.specs.declared.node.Test.{Test}
use Rattle.acn_grammar.specs.declared.node.Test.TheVariants.{Flag, Equals}
use Rattle.acn_check.specs.First.{Det, asked, gathered, given, only_if, permits, has_some, both_hold, overlapping, against, pairs, number_asked, is_other, disputes, clash, mixed, mark_from, mark, marks_on, differ_in, have_own, NoneMeet}
use Rattle.acn_check.proofs.Gathered.{gathering}
use Rattle.acn_grammar.proofs.WholeTests.{eq_fact, eq_self}

-- What holds says what is asked.

holds_asked : (env : Env) (t : Test) → Holds env t → at_slot env (asked t).0 ≡ Some (asked t).1
holds_asked env (Flag s) h = h
holds_asked env (Equals s k) h = h

asked_holds : (env : Env) (us : List Test) (s : ℕ) (y : ℤ) → AllHold env us → number_asked s us ≡ Some y → at_slot env s ≡ Some y
asked_holds env [] s y h e = cc
asked_holds env (u ∷ us) s y h e = by (cases_Bool (nat_eq (asked u).0 s)) (λ g. asked_holds env us s y h.1 g)
  where
    by : (nat_eq (asked u).0 s ≡ true) ⊎ (nat_eq (asked u).0 s ≡ false) → (number_asked s us ≡ Some y → at_slot env s ≡ Some y) → at_slot env s ≡ Some y
    by (inl t) rest =
        let here : Some (asked u).1 ≡ Some y = sym (ap (λ b. if b then Some (asked u).1 else number_asked s us) t) ∙ e in
        sym (ap (at_slot env) (eqb-true (asked u).0 s t)) ∙ (holds_asked env u h.0 ∙ here)
    by (inr f) rest = rest (sym (ap (λ b. if b then Some (asked u).1 else number_asked s us) f) ∙ e)

holds_left : (env : Env) (ts us : List Test) → AllHold env (ts ++ us) → AllHold env ts
holds_left env [] us h = tt
holds_left env (t ∷ ts) us h = (h.0, holds_left env ts us h.1)

holds_right : (env : Env) (ts us : List Test) → AllHold env (ts ++ us) → AllHold env us
holds_right env [] us h = h
holds_right env (t ∷ ts) us h = holds_right env ts us h.1

no_dispute : (env : Env) (us : List Test) (t : Test) → AllHold env us → Holds env t → disputes us t ≡ false
no_dispute env us t h g = by (number_asked (asked t).0 us) refl
  where
    by : (o : Option ℤ) → number_asked (asked t).0 us ≡ o → is_other (asked t).1 o ≡ false
    by None e = refl
    by (Some y) e =
        let one : Some (asked t).1 ≡ Some y = sym (holds_asked env t g) ∙ asked_holds env us (asked t).0 y h e in
        let same : (asked t).1 ≡ y = cc in
        ap not (subst (λ z. int_eq (asked t).1 z ≡ true) same (eq_self (asked t).1))

no_clash : (env : Env) (ts us : List Test) → AllHold env ts → AllHold env us → clash ts us ≡ false
no_clash env [] us h g = refl
no_clash env (t ∷ ts) us h g = ap (λ b. b || clash ts us) (no_dispute env us t g h.0) ∙ no_clash env ts us h.1 g

-- what both sides ask is gathered nowhere where a test of theirs excludes that all hold
none_if : (ds : List Det) (ts us : List Test) → ((env : Env) → AllHold env ts → AllHold env us → ⊥) → both_hold ds ts us ≡ None
none_if ds ts us never = by (gathered (ts ++ us) []) refl
  where
    in_none : (b : Bool) (o : Option Env) → o ≡ None → (if b then given o (λ es. only_if (Rattle.std.specs.List.list_all (permits ds) es) es) else None) ≡ None
    in_none true o e = ap (λ p. given p (λ es. only_if (Rattle.std.specs.List.list_all (permits ds) es) es)) e
    in_none false o e = refl

    by : (o : Option Env) → gathered (ts ++ us) [] ≡ o → both_hold ds ts us ≡ None
    by None e = in_none (has_some ts && has_some us) (gathered (ts ++ us) []) e
    by (Some es) e =
        let g = gathering (ts ++ us) [] es tt e in
        absurd (never es (holds_left es ts us g.all) (holds_right es ts us g.all))

clash_apart : (ds : List Det) (ts us : List Test) → clash ts us ≡ true → both_hold ds ts us ≡ None
clash_apart ds ts us h = none_if ds ts us (λ env p q. (let n = no_clash env ts us p q in cc))

pub clash_overlapping : (ds : List Det) (path : List ℕ) (i : ℕ) (ts : List Test) (j : ℕ) (us : List Test) → clash ts us ≡ true → overlapping ds path i ts j us ≡ None
clash_overlapping ds path i ts j us h = ap (option_map (Rattle.acn_grammar.specs.Check.overlap path i j)) (clash_apart ds ts us h)

-- conditions that hold together have one mark
same_mark : (env : Env) (ts us : List Test) → AllHold env ts → AllHold env us → (slots : List ℕ) (m x y : ℕ) → mark_from m slots ts ≡ Some x → mark_from m slots us ≡ Some y → x ≡ y
same_mark env ts us h g [] m x y e f = cc
same_mark env ts us h g (s ∷ ss) m x y e f = by (number_asked s ts) refl (number_asked s us) refl (λ next k l. same_mark env ts us h g ss next x y k l)
  where
    go : (o : Option ℕ) → given o (λ next. mark_from next ss ts) ≡ Some x → given o (λ next. mark_from next ss us) ≡ Some y → ((next : ℕ) → mark_from next ss ts ≡ Some x → mark_from next ss us ≡ Some y → x ≡ y) → x ≡ y
    go None k l rest = cc
    go (Some next) k l rest = rest next k l

    by : (o : Option ℤ) → number_asked s ts ≡ o → (p : Option ℤ) → number_asked s us ≡ p → ((next : ℕ) → mark_from next ss ts ≡ Some x → mark_from next ss us ≡ Some y → x ≡ y) → x ≡ y
    by None e' p f' rest = absurd (let k = sym (ap (λ o. given (given o (mixed m)) (λ next. mark_from next ss ts)) e') ∙ e in cc)
    by (Some a) e' None f' rest = absurd (let k = sym (ap (λ o. given (given o (mixed m)) (λ next. mark_from next ss us)) f') ∙ f in cc)
    by (Some a) e' (Some b) f' rest =
        let k = sym (ap (λ o. given (given o (mixed m)) (λ next. mark_from next ss ts)) e') ∙ e in
        let l = sym (ap (λ o. given (given o (mixed m)) (λ next. mark_from next ss us)) f') ∙ f in
        let one = asked_holds env ts s a h e' in
        let two = asked_holds env us s b g f' in
        let is : a ≡ b = cc in
        go (mixed m b) (subst (λ (z : ℤ). given (mixed m z) (λ next. mark_from next ss ts) ≡ Some x) is k) l rest

two_marks : (ds : List Det) (ts us : List Test) (slots : List ℕ) (x y : ℕ) → mark slots ts ≡ Some x → mark slots us ≡ Some y → int_eq (pos x) (pos y) ≡ false → both_hold ds ts us ≡ None
two_marks ds ts us slots x y e g n = none_if ds ts us (λ env p q.
    let same = same_mark env ts us p q slots 0 x y e g in
    let t = subst (λ (z : ℕ). int_eq (pos x) (pos z) ≡ true) same (eq_self (pos x)) in
    cc)

-- Marks of their own.

parts : (o : Option ℕ) (p : Option (List ℤ)) (xs : List ℤ) → given o (λ x. option_map (λ ys. pos x ∷ ys) p) ≡ Some xs → (x : ℕ) × (ys : List ℤ) × (o ≡ Some x) × (p ≡ Some ys) × (pos x ∷ ys ≡ xs)
parts None p xs h = cc
parts (Some x) None xs h = cc
parts (Some x) (Some ys) xs h = (x, ys, refl, refl, cc)

module _ (ds : List Det) (path : List ℕ) (slots : List ℕ) where
  none_against : (i : ℕ) (ts : List Test) (x : ℕ) → mark slots ts ≡ Some x → (j : ℕ) (cases : List (List ℕ × List Test)) (ys : List ℤ) → marks_on slots cases ≡ Some ys → list_any (int_eq (pos x)) ys ≡ false → against ds path i ts j cases ≡ None
  none_against i ts x e j [] ys g n = refl
  none_against i ts x e j (c ∷ cases) ys g n =
      let p = parts (mark slots c.1) (marks_on slots cases) ys g in
      let m = or_parts (int_eq (pos x) (pos p.0)) (list_any (int_eq (pos x)) p.1) (subst (λ l. list_any (int_eq (pos x)) l ≡ false) (sym p.4) n) in
      let here : overlapping ds path i ts j c.1 ≡ None = ap (option_map (Rattle.acn_grammar.specs.Check.overlap path i j)) (two_marks ds ts c.1 slots x p.0 e p.2 m.0) in
      ap (λ o. first_of_two o (against ds path i ts (suc j) cases)) here ∙ none_against i ts x e (suc j) cases p.1 p.3 m.1

  none_meet : (i : ℕ) (cases : List (List ℕ × List Test)) (xs : List ℤ) → marks_on slots cases ≡ Some xs → all_differ int_eq xs ≡ true → pairs ds path i cases ≡ None
  none_meet i [] xs g n = refl
  none_meet i (c ∷ cases) xs g n =
      let p = parts (mark slots c.1) (marks_on slots cases) xs g in
      let f = and_parts (not (list_any (int_eq (pos p.0)) p.1)) (all_differ int_eq p.1) (subst (λ l. all_differ int_eq l ≡ true) (sym p.4) n) in
      ap (λ o. first_of_two o (pairs ds path (suc i) cases)) (none_against i c.1 p.0 p.2 (suc i) cases p.1 p.3 (not-true _ f.0)) ∙ none_meet (suc i) cases p.1 p.3 f.1

pub own_apart : (slots : List ℕ) (cases : List (List ℕ × List Test)) → have_own slots cases ≡ true → NoneMeet cases
own_apart slots cases h ds path = by (marks_on slots cases) refl h
  where
    by : (o : Option (List ℤ)) → marks_on slots cases ≡ o → differ_in o ≡ true → pairs ds path 0 cases ≡ None
    by None e d = cc
    by (Some xs) e d = none_meet ds path slots 0 cases xs e d

pub if_own : {E : Type 0} (r : Result Bool E) (slots : List ℕ) (cases : List (List ℕ × List Test)) → IfOk r (λ own. own ≡ have_own slots cases) → IfOk r (λ told. told ≡ true → NoneMeet cases)
if_own (Ok b) slots cases h = λ t. own_apart slots cases (sym h ∙ t)
if_own (Err e) slots cases h = tt
