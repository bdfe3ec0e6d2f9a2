-- A look-up over as many modules as there are finds what a name leads to: no module is passed twice.
use Rattle.std.proofs.Common.{◌≡◌, ℕ, zero, suc, ◌<◌, ◌≤◌, Bool, List, length, Option, Some, None, refl, sym, ap, subst, ◌∙◌, arith, inl, inr}
use Rattle.std.specs.Prelude.{option_map, option_and_then, slice_get}
use Rattle.std.specs.Option.{option_or}
use Rattle.std.specs.List.{position_from}
use Rattle.std.proofs.lemmas.Option.{slice_get_within}
use Rattle.acn_asn_syntax.specs.Mirror.{AsnModule, Assign}
use Rattle.acn_asn_syntax.specs.declared.modules.Import.{Import}
use Rattle.acn_num.specs.Names.{Name}
use Rattle.acn_index.specs.World.{World, place}
use Rattle.acn_index.specs.Lookup.{own, imported_from, import_of, module_named, found, found_within}
use Rattle.acn_graph.specs.Graph.{Among}
use Rattle.acn_index.specs.Leading.{Leads, by_assignment, by_import, FindsWhatNamesLeadTo}
use Rattle.acn_index.specs.declared.sources.TypeId.{TypeId}
use Rattle.acn_index.proofs.Following as follow
use Rattle.acn_index.proofs.Left.{without, below, below_count, is_below}

some_is_one : {A : Type 0} {o : Option A} {x y : A} → o ≡ Some x → o ≡ Some y → x ≡ y
some_is_one {A} {o} {x} {y} e f = let h : Some x ≡ Some y = sym e ∙ f in cc h

some_is_not_none : {A : Type 0} {o : Option A} {x : A} → o ≡ Some x → o ≡ None → ⊥
some_is_not_none {A} {o} {x} e f = let h : Some x ≡ None = sym e ∙ f in absurd (cc h)

module _ (w : World) (test : Assign → Bool) (name : Name) where
  -- ---- modules on the way

  data Passes : ℕ → ℕ → Type 0 where
    stays : {k : ℕ} → Passes k k
    passes : {k j i : ℕ} → own w test k ≡ None → imported_from w name k ≡ Some j → Passes j i → Passes k i

  leads_there : {n k i : ℕ} {p : TypeId} → Leads w test name n k p → Passes k i → (m : ℕ) × (m ≤ n) × Leads w test name m i p
  leads_there {n = n} l stays = (n, (omega arith), l)
  leads_there (by_assignment e) (passes none i rest) = absurd (some_is_not_none e none)
  leads_there {n = suc n} {p = p} (by_import none i l) (passes none' j rest) =
      let there : Leads w test name n _ p = subst (λ (z : ℕ). Leads w test name n z p) (some_is_one i j) l in
      let h = leads_there there rest in
      let less : h.0 ≤ suc n = (let a = h.1 in omega (arith, a)) in
      (h.0, less, h.2)

  one_count : {n m k : ℕ} {p q : TypeId} → Leads w test name n k p → Leads w test name m k q → n ≡ m
  one_count (by_assignment e) (by_assignment f) = refl
  one_count (by_assignment e) (by_import none i l) = absurd (some_is_not_none e none)
  one_count (by_import none i l) (by_assignment e) = absurd (some_is_not_none e none)
  one_count {n = suc n} {m = suc m} {q = q} (by_import none i l) (by_import none' j l') = ap suc (one_count l (subst (λ (z : ℕ). Leads w test name m z q) (some_is_one j i) l'))

  no_round : {n k j : ℕ} {p : TypeId} → own w test k ≡ None → imported_from w name k ≡ Some j → Leads w test name n j p → Passes j k → ⊥
  no_round {n = n} none i l round =
      let h = leads_there l round in
      let same = one_count (by_import none i l) h.2 in
      let less = h.1 in
      absurd (omega (arith, same, less))

  -- ---- so many modules at most

  fewer : {n k : ℕ} {p : TypeId} (left : List ℕ) → Leads w test name n k p → ((u : ℕ) → Passes k u → Among u left) → n < length left
  fewer {k = k} left (by_assignment e) all = let h = without left (all k stays) in let a = h.1 in omega (arith, a)
  fewer {k = k} left (by_import {n = n} {j = j} none i l) all =
      let rest = without left (all k stays) in
      let kept_all : (u : ℕ) → Passes j u → Among u rest.0 = λ u h. elim (rest.2 u (all u (passes none i h))) [
        | inl same ↦ absurd (no_round none i l (subst (λ (z : ℕ). Passes j z) same h))
        | inr inside ↦ inside
      ] in
      let less = fewer rest.0 l kept_all in
      let a = rest.1 in omega (arith, a, less)

  there_is : {A : Type 0} (f : AsnModule → Option A) (k : ℕ) (x : A) (o : Option AsnModule) → slice_get w.modules k ≡ o → option_and_then f o ≡ Some x → k < length w.modules
  there_is f k x None e h = absurd (cc h)
  there_is f k x (Some m) e h = slice_get_within w.modules k m e

  is_module : {n k : ℕ} {p : TypeId} → Leads w test name n k p → k < length w.modules
  unfolding own imported_from
  is_module {k = k} (by_assignment {p = p} e) = there_is (λ (m : AsnModule). option_map (place k) (position_from test 0 m.items)) k p (slice_get w.modules k) refl e
  is_module {k = k} (by_import {j = j} none i l) = there_is (λ (m : AsnModule). option_and_then (λ (i : Import). module_named w i.module) (import_of m name)) k j (slice_get w.modules k) refl i

  bounded : {n k : ℕ} {p : TypeId} → Leads w test name n k p → n < length w.modules
  bounded l =
      let least = fewer (below (length w.modules)) l (λ u h. is_below (length w.modules) u (is_module (leads_there l h).2)) in
      let all = below_count (length w.modules) in
      omega (arith, least, all)

  -- ---- both ways

  finds : {n k : ℕ} {p : TypeId} (most : ℕ) → n < most → Leads w test name n k p → found_within most w test name k ≡ Some p
  finds {k = k} {p = p} most lt (by_assignment e) = follow.ends w test name most k p lt e
  finds zero lt (by_import none i l) = absurd (omega arith)
  finds {k = k} (suc most) lt (by_import {j = j} none i l) = follow.goes w test name (suc most) most k j refl none i ∙ finds most (omega arith) l

  found_by : (n k : ℕ) (p : TypeId) (o : Option TypeId) (i : Option ℕ) → own w test k ≡ o → imported_from w name k ≡ i → option_or o (option_and_then (found_within n w test name) i) ≡ Some p
      → ((j : ℕ) → found_within n w test name j ≡ Some p → (m : ℕ) × Leads w test name m j p) → (m : ℕ) × Leads w test name m k p
  found_by n k p (Some q) i e f h more = (zero, by_assignment (e ∙ h))
  found_by n k p None None e f h more = absurd (cc h)
  found_by n k p None (Some j) e f h more = let l = more j h in (suc l.0, by_import e f l.1)

  leads_to : (n k : ℕ) (p : TypeId) → found_within n w test name k ≡ Some p → (m : ℕ) × Leads w test name m k p
  unfolding found_within
  leads_to zero k p h = absurd (cc h)
  leads_to (suc n) k p h = found_by n k p (own w test k) (imported_from w name k) refl refl h (λ j. leads_to n j p)

  pub both_ways : (k : ℕ) (p : TypeId) → FindsWhatNamesLeadTo w test name k p
  unfolding found
  both_ways k p = record { found_leads = leads_to (length w.modules) k p; leads_found = λ n l. finds (length w.modules) (bounded l) l }
