-- Items in blocks.
use Rattle.std.proofs.Common.{◌≡◌, ℕ, Bool, true, false, ◌&&◌, ◌||◌, List, [], ◌∷◌, ◌++◌, map, length, nat_eq, arith, refl, sym, ap, ◌∙◌, subst}
use Rattle.std.specs.List.{list_any}
use Rattle.std.proofs.lemmas.Bool.{and_parts, and_from, false_from_ne_true, true≢false}
use Rattle.std.proofs.lemmas.Bool.Decides.{nat_tests}
use Rattle.std.proofs.lemmas.List.{append_assoc, append-nil}
use Rattle.acn_grammar.specs.Leaves.{all_differ}
use Rattle.acn_leaf.proofs.Pairs.{apart, apart_none, apart_append, differ_append}

module _ {X K : Type 0} (key : X → K) where
  map_append : (xs ys : List X) → map key (xs ++ ys) ≡ map key xs ++ map key ys
  map_append [] ys = refl
  map_append (x ∷ xs) ys = ap (λ l. key x ∷ l) (map_append xs ys)

  pub keys_split : (xs block more : List X) → xs ≡ block ++ more → map key xs ≡ map key block ++ map key more
  keys_split xs block more e = ap (map key) e ∙ map_append block more

  pub none_left : (b : Bool) (xs : List X) → b ≡ nat_eq (length xs) 0 → b ≡ true → map key xs ≡ []
  none_left b [] e h = refl
  none_left b (x ∷ xs) e h = (let g = eq_is (length (x ∷ xs)) 0 (sym e ∙ h) in absurd (omega (arith, g)))
    where
      eq_is : (m n : ℕ) → nat_eq m n ≡ true → m ≡ n
      eq_is m n t = grind (arith, nat_tests)

  module _ (same : K → K → Bool) where
    any_keyed : (x : K) (ys : List X) → list_any (λ y. same x (key y)) ys ≡ list_any (same x) (map key ys)
    any_keyed x [] = refl
    any_keyed x (y ∷ ys) = ap (λ b. same x (key y) || b) (any_keyed x ys)

    -- what differs in its keys
    pub keyed : (xs : List X) → all_differ (λ a b. same (key a) (key b)) xs ≡ all_differ same (map key xs)
    keyed [] = refl
    keyed (x ∷ xs) = rw (any_keyed (key x) xs, keyed xs) refl

module _ {K : Type 0} (same : K → K → Bool) where
  -- a block differs from all that was passed of the keys behind it
  pub record Passed (block behind rest : List K) : Type 0 where
    pub done : List K
    pub whole : behind ≡ done ++ rest
    pub alone : apart same block done ≡ true
    pub front : all_differ same block ≡ true

  parts : (xs ys : List K) → all_differ same (xs ++ ys) ≡ true → (all_differ same xs ≡ true) × (apart same xs ys ≡ true) × (all_differ same ys ≡ true)
  parts xs ys h =
      let a = and_parts (all_differ same xs) (apart same xs ys && all_differ same ys) (sym (differ_append same xs ys) ∙ h) in
      let b = and_parts (apart same xs ys) (all_differ same ys) a.1 in
      (a.0, b.0, b.1)

  joined : (xs ys : List K) → all_differ same xs ≡ true → apart same xs ys ≡ true → all_differ same (xs ++ ys) ≡ all_differ same ys
  joined xs ys h a = differ_append same xs ys ∙ rw (h, a) refl

  block_fails : (front done block more : List K) → all_differ same (front ++ block) ≡ false → all_differ same (front ++ (done ++ (block ++ more))) ≡ false
  block_fails front done block more h = false_from_ne_true _ (λ t.
      let all = parts front (done ++ (block ++ more)) t in
      let behind = and_parts (apart same front done) (apart same front (block ++ more)) (sym (apart_append same front done (block ++ more)) ∙ all.1) in
      let near = and_parts (apart same front block) (apart same front more) (sym (apart_append same front block more) ∙ behind.1) in
      let rest = parts block more (parts done (block ++ more) all.2).2 in
      true≢false (sym (joined front block all.0 near.0 ∙ rest.0) ∙ h))

  pub begun : (block behind none : List K) → none ≡ [] → all_differ same (block ++ none) ≡ true → Passed block behind behind
  begun block behind none e h = record { done = []; whole = refl; alone = apart_none same block; front = (parts block none h).0 }

  pub passed_more : (block behind rest next more : List K) → rest ≡ next ++ more → all_differ same (block ++ next) ≡ true → Passed block behind rest → Passed block behind more
  passed_more block behind rest next more e h p = record {
    done = p.done ++ next;
    whole = p.whole ∙ (ap (λ l. p.done ++ l) e ∙ sym (append_assoc p.done next more));
    alone = apart_append same block p.done next ∙ and_from (apart same block p.done) (apart same block next) p.alone (parts block next h).1;
    front = p.front;
  }

  pub passed_all : (block behind rest : List K) → rest ≡ [] → Passed block behind rest → all_differ same (block ++ behind) ≡ all_differ same behind
  passed_all block behind rest e p =
      let whole : p.done ≡ behind = sym (p.whole ∙ (ap (λ l. p.done ++ l) e ∙ append-nil p.done)) in
      joined block behind p.front (subst (λ l. apart same block l ≡ true) whole p.alone)

  pub passed_fails : (block behind rest next more : List K) → rest ≡ next ++ more → all_differ same (block ++ next) ≡ false → Passed block behind rest → all_differ same (block ++ behind) ≡ false
  passed_fails block behind rest next more e h p =
      ap (λ l. all_differ same (block ++ l)) (p.whole ∙ ap (λ l. p.done ++ l) e) ∙ block_fails block p.done next more h

  pub first_fails : (block behind none : List K) → none ≡ [] → all_differ same (block ++ none) ≡ false → all_differ same (block ++ behind) ≡ false
  first_fails block behind none e h = block_fails block [] [] behind (subst (λ l. all_differ same (block ++ l) ≡ false) e h)
