-- The first in the text of what is found.
use Rattle.std.proofs.Common.{◌≡◌, ℕ, ◌<◌, ◌≤◌, Bool, true, false, ◌&&◌, refl, sym, ap, subst, ◌∙◌, List, [], ◌∷◌, ◌++◌, cond, Option, Some, None, arith}
use Rattle.std.specs.Prelude.{◌⊎◌, nat_lt, nat_eq, if◌then◌else◌, filter_map}
use Rattle.std.specs.List.{AllByRecursion, cons_option}
use Rattle.std.specs.Ordering.{nat_cmp, is_lt, ordering_then}
use Rattle.std.specs.declared.cmp.Ordering.TheVariants.{Less, Equal, Greater}
use Rattle.std.specs.Cmp.Lexicographic.{slice_cmp}
use Rattle.std.proofs.Common.{inl, inr}
use Rattle.std.proofs.lemmas.Bool.{and_parts, and_from, true≢false, false_from_ne_true, lt-ltb, eq-eqb, cases_order}
use Rattle.std.proofs.lemmas.Bool.Decides.{nat_tests}
use Rattle.acn_sites.specs.Places.{Place, is_before, sooner, earliest_from, found_there}
use Rattle.acn_fold_laws.specs.Places.{IsEarliestOf, IsEarliest}

-- ---- the order of places

abbrev step : ℕ → ℕ → Bool → Bool
step a b t = if nat_lt a b then true else (nat_eq a b && t)

less_is : (a b : ℕ) → nat_lt a b ≡ true → a < b
less_is a b e = grind (arith, nat_tests)

same_is : (a b : ℕ) → nat_eq a b ≡ true → a ≡ b
same_is a b e = grind (arith, nat_tests)

step_parts : (a b : ℕ) (t : Bool) → step a b t ≡ true → (a < b) ⊎ ((a ≡ b) × (t ≡ true))
step_parts a b t = by (nat_lt a b) refl
  where
    by : (u : Bool) → nat_lt a b ≡ u → (if u then true else (nat_eq a b && t)) ≡ true → (a < b) ⊎ ((a ≡ b) × (t ≡ true))
    by true e h = inl (less_is a b e)
    by false e h = (let p = and_parts (nat_eq a b) t h in inr (same_is a b p.0, p.1))

step_less : (a b : ℕ) (t : Bool) → a < b → step a b t ≡ true
step_less a b t h = ap (λ u. if u then true else (nat_eq a b && t)) (lt-ltb a b h)

step_same : (a b : ℕ) (t : Bool) → a ≡ b → t ≡ true → step a b t ≡ true
step_same a b t e h = by (nat_lt a b)
  where
    by : (u : Bool) → (if u then true else (nat_eq a b && t)) ≡ true
    by true = refl
    by false = and_from (nat_eq a b) t (eq-eqb a b e) h

-- a step that doesn't lead before
not_less : (a b : ℕ) (t : Bool) → step a b t ≡ false → b ≤ a
not_less a b t h = elim (cases_order a b) [
  | inl e ↦ omega (arith, e)
  | inr o ↦ elim o [ inl l ↦ absurd (true≢false (sym (step_less a b t l) ∙ h)) | inr g ↦ omega (arith, g) ]
]

no_step : (a b : ℕ) (t : Bool) → step a b t ≡ false → (b ≤ a) × (a ≡ b → t ≡ false)
no_step a b t h = (not_less a b t h, λ e. false_from_ne_true t (λ k. true≢false (sym (step_same a b t e k) ∙ h)))

pub before_trans : (p q r : Place) → is_before p q ≡ true → is_before q r ≡ true → is_before p r ≡ true
before_trans [] [] r h k = k
before_trans [] (b ∷ q) [] h k = k
before_trans [] (b ∷ q) (c ∷ r) h k = refl
before_trans (a ∷ p) [] r h k = cc
before_trans (a ∷ p) (b ∷ q) [] h k = k
before_trans (a ∷ p) (b ∷ q) (c ∷ r) h k = elim (step_parts a b (is_before p q) h) [
  | inl l ↦ elim (step_parts b c (is_before q r) k) [ inl m ↦ step_less a c (is_before p r) (omega (arith, l, m)) | inr m ↦ (let e = m.0 in step_less a c (is_before p r) (omega (arith, l, e))) ]
  | inr l ↦ elim (step_parts b c (is_before q r) k) [
    | inl m ↦ (let e = l.0 in step_less a c (is_before p r) (omega (arith, m, e)))
    | inr m ↦ step_same a c (is_before p r) (l.0 ∙ m.0) (before_trans p q r l.1 m.1)
  ]
]

-- what stands before a place stands before all that don't stand before it
pub before_others : (p q r : Place) → is_before p q ≡ true → is_before r q ≡ false → is_before p r ≡ true
before_others [] [] r h k = cc
before_others [] (b ∷ q) [] h k = cc
before_others [] (b ∷ q) (c ∷ r) h k = refl
before_others (a ∷ p) [] r h k = cc
before_others (a ∷ p) (b ∷ q) [] h k = cc
before_others (a ∷ p) (b ∷ q) (c ∷ r) h k =
    let n = no_step c b (is_before r q) k in
    let le = n.0 in
    elim (step_parts a b (is_before p q) h) [
      | inl l ↦ step_less a c (is_before p r) (omega (arith, l, le))
      | inr l ↦ (let same = l.0 in elim (cases_order b c) [
        | inl e ↦ step_same a c (is_before p r) (same ∙ e) (before_others p q r l.1 (n.1 (sym e)))
        | inr o ↦ elim o [
          | inl m ↦ step_less a c (is_before p r) (omega (arith, same, m))
          | inr g ↦ absurd (omega (arith, le, g))
        ]
      ])
    ]

pub places_order : (p q : Place) → is_before p q ≡ is_lt (slice_cmp nat_cmp p q)
places_order [] [] = refl
places_order [] (b ∷ q) = refl
places_order (a ∷ p) [] = refl
places_order (a ∷ p) (b ∷ q) = by (nat_lt a b) (nat_eq a b) (places_order p q)
  where
    by : (u v : Bool) → is_before p q ≡ is_lt (slice_cmp nat_cmp p q) → (if u then true else (v && is_before p q)) ≡ is_lt (ordering_then (cond u Less (cond v Equal Greater)) (slice_cmp nat_cmp p q))
    by true v e = refl
    by false true e = e
    by false false e = refl

-- ---- the first of a list

module _ {A : Type 0} where
  -- the first of these, and of the one before them
  abbrev pub first_of : Option (Place × A) → List (Place × A) → Option (Place × A)
  first_of best [] = best
  first_of best (x ∷ xs) = first_of (sooner best (Some x)) xs

  record Stays (b : Place × A) (xs : List (Place × A)) (r : Place × A) : Type 0 where
    is : r ≡ b
    others : AllByRecursion (λ (y : Place × A). is_before y.0 r.0 ≡ false) xs

  record Moves (b : Place × A) (xs : List (Place × A)) (r : Place × A) : Type 0 where
    earlier : List (Place × A)
    later : List (Place × A)
    there : xs ≡ earlier ++ r ∷ later
    before : is_before r.0 b.0 ≡ true
    first : AllByRecursion (λ (y : Place × A). is_before r.0 y.0 ≡ true) earlier
    not_behind : AllByRecursion (λ (y : Place × A). is_before y.0 r.0 ≡ false) later

  record First (b : Place × A) (xs : List (Place × A)) : Type 0 where
    r : Place × A
    found : first_of (Some b) xs ≡ Some r
    how : Stays b xs r ⊎ Moves b xs r

  first_is : (b : Place × A) (xs : List (Place × A)) → First b xs
  first_is b [] = record { r = b; found = refl; how = inl (record { is = refl; others = tt }) }
  first_is b (x ∷ xs) = by (is_before x.0 b.0) refl (λ c. first_is c xs)
    where
      by : (t : Bool) → is_before x.0 b.0 ≡ t → ((c : Place × A) → First c xs) → First b (x ∷ xs)
      by true e rest = (let f = rest x in record {
        r = f.r;
        found = ap (λ t. first_of (if t then Some x else Some b) xs) e ∙ f.found;
        how = elim f.how [
          | inl s ↦ inr (record { earlier = []; later = xs; there = ap (λ (y : Place × A). y ∷ xs) (sym s.is); before = ap (λ (y : Place × A). is_before y.0 b.0) s.is ∙ e; first = tt; not_behind = s.others })
          | inr m ↦ inr (record { earlier = x ∷ m.earlier; later = m.later; there = ap (λ (l : List (Place × A)). x ∷ l) m.there; before = before_trans f.r.0 x.0 b.0 m.before e; first = (m.before, m.first); not_behind = m.not_behind })
        ];
      })
      by false e rest = (let f = rest b in record {
        r = f.r;
        found = ap (λ t. first_of (if t then Some x else Some b) xs) e ∙ f.found;
        how = elim f.how [
          | inl s ↦ inl (record { is = s.is; others = (ap (λ (y : Place × A). is_before x.0 y.0) s.is ∙ e, s.others) })
          | inr m ↦ inr (record { earlier = x ∷ m.earlier; later = m.later; there = ap (λ (l : List (Place × A)). x ∷ l) m.there; before = m.before; first = (before_others f.r.0 b.0 x.0 m.before e, m.first); not_behind = m.not_behind })
        ];
      })

  earliest_of : (b : Place × A) (xs : List (Place × A)) (f : First b xs) → IsEarliestOf (b ∷ xs) f.r
  earliest_of b xs f = elim f.how [
    | inl s ↦ record { earlier = []; later = xs; there = ap (λ (y : Place × A). y ∷ xs) (sym s.is); first = tt; not_behind = s.others }
    | inr m ↦ record { earlier = b ∷ m.earlier; later = m.later; there = ap (λ (l : List (Place × A)). b ∷ l) m.there; first = (m.before, m.first); not_behind = m.not_behind }
  ]

  pub first_is_earliest : (found : List (Place × A)) → IsEarliest found (found_there (first_of None found))
  first_is_earliest [] = refl
  first_is_earliest (x ∷ xs) = (let f = first_is x xs in subst (λ (o : Option (Place × A)). IsEarliest (x ∷ xs) (found_there o)) (sym f.found) (f.r.0, earliest_of x xs f))

  pub first_append : (best : Option (Place × A)) (xs ys : List (Place × A)) → first_of (first_of best xs) ys ≡ first_of best (xs ++ ys)
  first_append best [] ys = refl
  first_append best (x ∷ xs) ys = first_append (sooner best (Some x)) xs ys

module _ {A B : Type 0} where
  pub from_found : (f : B → Option (Place × A)) (best : Option (Place × A)) (xs : List B) → earliest_from f best xs ≡ first_of best (filter_map f xs)
  from_found f best [] = refl
  from_found f best (x ∷ xs) = by (f x) (λ next. from_found f next xs)
    where
      by : (o : Option (Place × A)) → ((next : Option (Place × A)) → earliest_from f next xs ≡ first_of next (filter_map f xs)) → earliest_from f (sooner best o) xs ≡ first_of best (cons_option o (filter_map f xs))
      by None rest = rest best
      by (Some y) rest = rest (sooner best (Some y))
