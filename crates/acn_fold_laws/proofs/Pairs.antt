-- The first two items that have one number.
use Rattle.std.proofs.Common.{◌≡◌, ℕ, ◌+◌, ◌≤◌, Bool, true, false, cond, refl, sym, ap, subst, ◌∙◌, ℤ, [], ◌∷◌, ◌++◌, List, length, find, Option, Some, None, append_assoc, append-nil, length-append, arith}
use Rattle.std.specs.Prelude.{filter, option_map}
use Rattle.std.specs.Option.{option_or}
use Rattle.std.specs.Ordering.{int_eq}
use Rattle.std.proofs.lemmas.List.Elements.{filter-append}
use Rattle.acn_num.specs.Names.{Name}
use Rattle.acn_grammar.proofs.WholeTests.{eq_fact}
use Rattle.acn_written.specs.Items.{Numbered}
use Rattle.acn_enum_values.specs.EnumValues.{twins_behind, twins}
use Rattle.acn_fold_laws.specs.Items.{NumbersDiffer, AreTwins}

record Found {A : Type 0} (p : A → Bool) (xs : List A) (y : A) : Type 0 where
  front : List A
  behind : List A
  there : xs ≡ front ++ y ∷ behind
  passes : p y ≡ true

found : {A : Type 0} (p : A → Bool) (xs : List A) (y : A) → find p xs ≡ Some y → Found p xs y
found p [] y e = cc
found {A} p (x ∷ xs) y e = by (p x) refl e (found p xs y)
  where
    by : (t : Bool) → p x ≡ t → cond t (Some x) (find p xs) ≡ Some y → (find p xs ≡ Some y → Found p xs y) → Found p (x ∷ xs) y
    by true t f rest = (let s : x ≡ y = cc in record { front = []; behind = xs; there = ap (λ (z : A). z ∷ xs) s; passes = ap p (sym s) ∙ t })
    by false t f rest = (let r = rest f in record { front = x ∷ r.front; behind = r.behind; there = ap (λ (l : List A). x ∷ l) r.there; passes = r.passes })

none_passes : {A : Type 0} (p : A → Bool) (xs : List A) → find p xs ≡ None → length (filter p xs) ≡ 0
none_passes p [] e = refl
none_passes {A} p (x ∷ xs) e = by (p x) e (none_passes p xs)
  where
    by : (t : Bool) → cond t (Some x) (find p xs) ≡ None → (find p xs ≡ None → length (filter p xs) ≡ 0) → length (cond t (x ∷ filter p xs) (filter p xs)) ≡ 0
    by true f rest = cc
    by false f rest = rest f

abbrev numbered : ℤ → Numbered → Bool
numbered x i = int_eq x i.1

counted : (n m k : ℕ) → n ≡ m + k → m ≤ 1 → k ≡ 0 → n ≤ 1
counted n m k e h f = omega (arith, e, h, f)

counted_last : (n m k : ℕ) → n ≡ m + k → m ≡ 0 → k ≤ 1 → n ≤ 1
counted_last n m k e h f = omega (arith, e, h, f)

-- one item more, with a number that none of the others has
one_more : (before : List Numbered) (i : Numbered) → NumbersDiffer before → find (numbered i.1) before ≡ None → (x : ℤ) → length (filter (numbered x) (before ++ i ∷ [])) ≤ 1
one_more before i d none x = by (int_eq x i.1) refl (ap length (filter-append (numbered x) before (i ∷ [])) ∙ length-append (filter (numbered x) before) (filter (numbered x) (i ∷ [])))
  where
    by : (t : Bool) → int_eq x i.1 ≡ t → length (filter (numbered x) (before ++ i ∷ [])) ≡ length (filter (numbered x) before) + length (cond t (i ∷ []) []) → length (filter (numbered x) (before ++ i ∷ [])) ≤ 1
    by true t e = counted_last (length (filter (numbered x) (before ++ i ∷ []))) (length (filter (numbered x) before)) 1 e (subst (λ (z : ℤ). length (filter (numbered z) before) ≡ 0) (sym (eq_fact x i.1 t)) (none_passes (numbered i.1) before none)) (omega arith)
    by false t e = counted (length (filter (numbered x) (before ++ i ∷ []))) (length (filter (numbered x) before)) 0 e (d x) refl

twins_from : (before is : List Numbered) → NumbersDiffer before → AreTwins (before ++ is) (twins_behind before is)
twins_from before [] d = subst NumbersDiffer (sym (append-nil before)) d
twins_from before (i ∷ is) d = by (find (numbered i.1) before) refl (twins_from (before ++ i ∷ []) is)
  where
    by : (o : Option Numbered) → find (numbered i.1) before ≡ o → (NumbersDiffer (before ++ i ∷ []) → AreTwins ((before ++ i ∷ []) ++ is) (twins_behind (before ++ i ∷ []) is))
        → AreTwins (before ++ i ∷ is) (option_or (option_map (λ (earlier : Name). (earlier, i.0)) (option_map (λ (j : Numbered). j.0) o)) (twins_behind (before ++ i ∷ []) is))
    by None e rest = subst (λ (l : List Numbered). AreTwins l (twins_behind (before ++ i ∷ []) is)) (append_assoc before (i ∷ []) is) (rest (λ x. one_more before i d e x))
    by (Some j) e rest = (let f = found (numbered i.1) before j e in record {
      front = f.front;
      one = j;
      between = f.behind;
      other = i;
      behind = is;
      there = ap (λ (l : List Numbered). l ++ i ∷ is) f.there ∙ append_assoc f.front (j ∷ f.behind) (i ∷ is);
      before = subst NumbersDiffer f.there d;
      same = sym (eq_fact i.1 j.1 f.passes);
      first = refl;
      second = refl;
    })

pub first_twins : (is : List Numbered) → AreTwins is (twins is)
first_twins is = twins_from [] is (λ x. omega arith)
