-- Which alternative the number of a slot chooses, by the items of the alternatives.
use Rattle.std.proofs.Common.{◌≡◌, ℕ, zero, suc, ◌+◌, ℤ, pos, Bool, true, false, List, [], ◌∷◌, map, Option, Some, None, refl, sym, ap, ◌∙◌, arith, not, if◌then◌else◌}
use Rattle.std.specs.Prelude.{slice_get, MatchOption}
use Rattle.std.specs.List.{list_any}
use Rattle.std.specs.Ordering.{int_eq}
use Rattle.std.proofs.lemmas.Bool.{and_parts, not-true, or_left, or_right, false_from_ne_true}
use Rattle.acn_grammar.specs.Asks.{same_name}
use Rattle.acn_grammar.specs.Env.{Env, at_slot}
use Rattle.acn_grammar.specs.Grammar.{Grammar, Alternatives, no_alternatives, alternative}
use Rattle.acn_grammar.specs.Leaves.{all_differ}
use Rattle.acn_grammar.specs.Scoped.{names_of}
use Rattle.acn_grammar.specs.Slots.{items_of}
use Rattle.acn_grammar.specs.Sound.{Sound}
use Rattle.acn_grammar.specs.declared.node.ChoiceRule.TheVariants.{Item}
use Rattle.acn_grammar.proofs.Characters.{same_name-is, same_name-refl}
use Rattle.acn_grammar.proofs.WholeTests.{eq_fact, eq_self}
use Rattle.acn_plan.specs.Steps.{item_named}
use Rattle.acn_reads.specs.Choices.{first_case, IsItem, Choosing, Unchosen}
use Rattle.acn_reads.specs.Decoded.{Follows}
use Rattle.acn_reads.proofs.ChoiceReads.{case_answer}
use Rattle.acn_unpack.specs.Items.{ItemsAre, is_item, first_item}
use Rattle.acn_unpack.proofs.SlotItems.{Named, same_named, items_differ}

-- An item that is found by a name has the name.

some_index : (i j : ℕ) → ◌≡◌ {A = Option ℕ} (Some i) (Some j) → i ≡ j
some_index i j e = cc

some_named : (a b : Named) → ◌≡◌ {A = Option Named} (Some a) (Some b) → a ≡ b
some_named a b e = cc

found_named : (name : List ℕ) (k : ℕ) (items : List Named) (i : ℕ) → item_named name k items ≡ Some i → (j : ℕ) × (i ≡ k + j) × (v : ℤ) × (slice_get items j ≡ Some (name, v))
found_named name k [] i e = cc
found_named name k (m ∷ ms) i e = by (same_name m.0 name) refl e (found_named name (k + 1) ms i)
  where
    by : (b : Bool) → same_name m.0 name ≡ b → (if b then Some k else item_named name (k + 1) ms) ≡ Some i
        → (item_named name (k + 1) ms ≡ Some i → (j : ℕ) × (i ≡ (k + 1) + j) × (v : ℤ) × (slice_get ms j ≡ Some (name, v)))
        → (j : ℕ) × (i ≡ k + j) × (v : ℤ) × (slice_get (m ∷ ms) j ≡ Some (name, v))
    by true q h f = (let s = some_index k i h in (0, omega (arith, s), m.1, ap (λ (n : List ℕ). Some (n, m.1)) (same_name-is m.0 name q)))
    by false q h f = (let r = f h in let p = r.1 in (suc r.0, omega (arith, p), r.2, r.3))

-- An item is found by its name, where the names differ.

any_there : (n : Named) (items : List Named) (i : ℕ) (m : Named) → slice_get items i ≡ Some m → same_name n.0 m.0 ≡ true → list_any (same_named n) items ≡ true
any_there n [] i m e h = cc
any_there n (k ∷ items) zero m e h = (let same : k ≡ m = some_named k m e in or_left (same_named n k) (list_any (same_named n) items) (ap (same_named n) same ∙ h))
any_there n (k ∷ items) (suc i) m e h = or_right (same_named n k) (list_any (same_named n) items) (any_there n items i m e h)

named_found : (name : List ℕ) (k : ℕ) (items : List Named) (i : ℕ) (v : ℤ) → all_differ same_named items ≡ true → slice_get items i ≡ Some (name, v) → item_named name k items ≡ Some (k + i)
named_found name k [] i v d e = cc
named_found name k (m ∷ ms) zero v d e =
    (let same : m ≡ (name, v) = some_named m (name, v) e in
    let is : same_name m.0 name ≡ true = ap (λ (n : Named). same_name n.0 name) same ∙ same_name-refl name in
    let z : k ≡ k + 0 = omega arith in
    rw is (ap Some z))
named_found name k (m ∷ ms) (suc i) v d e =
    (let f = and_parts (not (list_any (same_named m) ms)) (all_differ same_named ms) d in
    let other : same_name m.0 name ≡ false = false_from_ne_true (same_name m.0 name) (λ q. (let there = any_there m ms i (name, v) e q in let away = not-true (list_any (same_named m) ms) f.0 in cc)) in
    let z : (k + 1) + i ≡ k + suc i = omega arith in
    rw other (named_found name (k + 1) ms i v f.1 e ∙ ap Some z))

-- the first alternative with the item is the first whose name has it
by_name : (x : ℤ) (items : List Named) (k : ℕ) (cases : Alternatives) → first_item x k (map (λ name. item_named name 0 items) (names_of cases)) ≡ first_case (λ name ts. is_item x (item_named name 0 items)) k cases
by_name x items k no_alternatives = refl
by_name x items k (alternative name g ts more) = by (is_item x (item_named name 0 items)) refl (by_name x items (suc k) more)
  where
    by : (b : Bool) → is_item x (item_named name 0 items) ≡ b → first_item x (suc k) (map (λ name. item_named name 0 items) (names_of more)) ≡ first_case (λ name ts. is_item x (item_named name 0 items)) (suc k) more
        → first_item x k (map (λ name. item_named name 0 items) (names_of (alternative name g ts more))) ≡ first_case (λ name ts. is_item x (item_named name 0 items)) k (alternative name g ts more)
    by true e r = rw e refl
    by false e r = rw e r

module _ (root : Grammar) (sound : Sound root 0 [] (λ s. false) root) (s : ℕ) (t : Env) (x : ℤ) (number : at_slot t s ≡ Some x) where
  one_number : (env : Env) → Follows t env → (i : ℕ) → at_slot env s ≡ Some (pos i) → x ≡ pos i
  one_number env f i h = (let q : at_slot env s ≡ Some x = f s x number in let z : ◌≡◌ {A = Option ℤ} (Some x) (Some (pos i)) = sym q ∙ h in cc)

  chosen_by : (env : Env) → Follows t env → (name : List ℕ) → is_item x (item_named name 0 (items_of root s)) ≡ true → IsItem root env s name
  chosen_by env f name = by (item_named name 0 (items_of root s)) refl
    where
      by : (o : Option ℕ) → item_named name 0 (items_of root s) ≡ o → is_item x o ≡ true → IsItem root env s name
      by None e h = cc
      by (Some i) e h =
          (let r = found_named name 0 (items_of root s) i e in
          let p = r.1 in
          let same : i ≡ r.0 = omega (arith, p) in
          (r.0, r.2, f s x number ∙ ap Some (eq_fact x (pos i) h ∙ ap pos same), r.3))

  not_chosen : (env : Env) → Follows t env → (name : List ℕ) → is_item x (item_named name 0 (items_of root s)) ≡ false → IsItem root env s name → ⊥
  not_chosen env f name h c =
      (let e = named_found name 0 (items_of root s) c.0 c.1 (items_differ root sound s) c.3 in
      let z : 0 + c.0 ≡ c.0 = omega arith in
      let is : is_item x (item_named name 0 (items_of root s)) ≡ true = ap (is_item x) (e ∙ ap Some z) ∙ (ap (λ (y : ℤ). int_eq y (pos c.0)) (one_number env f c.0 c.2) ∙ eq_self (pos c.0)) in
      cc)

  pub items_answer : (cases : Alternatives) (items : List (Option ℕ)) (o : Option ℕ) → ItemsAre root s cases items → o ≡ first_item x 0 items → MatchOption o (Unchosen root cases (Item s) t) (Choosing root cases (Item s) t)
  items_answer cases items o are e = case_answer root (Item s) (λ name ts. is_item x (item_named name 0 (items_of root s))) (λ ts. Unit {0}) t (λ env f name ts known. (chosen_by env f name, not_chosen env f name)) cases (λ j. tt) o
      (e ∙ (ap (first_item x 0) are ∙ by_name x (items_of root s) 0 cases))
