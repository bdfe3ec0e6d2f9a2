-- Moments that are gathered one behind another.
use Rattle.std.proofs.Common.{◌≡◌, ℕ, ℤ, pos, zero, suc, ◌+◌, ◌<◌, ◌≤◌, Bool, true, false, List, [], ◌∷◌, ◌++◌, length, map, get_or, drop, Option, Some, None, refl, sym, ap, subst, ◌∙◌, arith, append_assoc, append-nil, add-one}
use Rattle.std.specs.Prelude.{if◌then◌else◌}
use Rattle.std.proofs.lemmas.List.{drop_more, drop_all, map-append}
use Rattle.acn_num.specs.Ranges.{has}
use Rattle.acn_grammar.specs.Asks as asks
use Rattle.acn_grammar.specs.Asks.{FieldPaths, field_of, index_of}
use Rattle.acn_grammar.specs.Faults.{ask_of}
use Rattle.acn_grammar.specs.Grammar.{Grammar}
use Rattle.acn_grammar.specs.Slots.{domain_of, items_of, slot_leaf}
use Rattle.acn_grammar.specs.Scoped.{Known, TestsIn}
use Rattle.acn_grammar.specs.declared.node.NumLeaf.{NumLeaf}
use Rattle.acn_grammar.specs.declared.node.Test.{Test}
use Rattle.acn_asks.specs.declared.moments.Moment.{Moment}
use Rattle.acn_asking.specs.Gathered.{with_numbers, with_domain, Gathers}

-- The numbers and the items of a slot are those of its leaf.

pub domain : (root : Grammar) (s : ℕ) (leaf : NumLeaf) → slot_leaf root s ≡ Some leaf → leaf.set ≡ domain_of root s
domain root s leaf e = rw e refl

pub items : (root : Grammar) (s : ℕ) (leaf : NumLeaf) → slot_leaf root s ≡ Some leaf → leaf.items.items ≡ items_of root s
items root s leaf e = rw e refl

module _ (root : Grammar) where
  pub nothing : (old : List Moment) → Gathers root [] old old
  nothing old = sym (append-nil (map with_numbers old))

  pub none : (ms : List asks.Moment) (old : List Moment) → ms ≡ [] → Gathers root ms old old
  none ms old e = subst (λ (z : List asks.Moment). Gathers root z old old) (sym e) (nothing old)

  pub one : (old new : List Moment) (m : Moment) (a : asks.Moment) → new ≡ old ++ m ∷ [] → with_numbers m ≡ with_domain root a → Gathers root (a ∷ []) old new
  one old new m a e h = ap (map with_numbers) e ∙ (map-append with_numbers old (m ∷ []) ∙ ap (λ z. map with_numbers old ++ z ∷ []) h)

  pub both : (a b : List asks.Moment) (old mid new : List Moment) → Gathers root a old mid → Gathers root b mid new → Gathers root (a ++ b) old new
  both a b old mid new h g =
      let da = map (with_domain root) a in
      let db = map (with_domain root) b in
      g ∙ (ap (λ z. z ++ db) h ∙ (append_assoc (map with_numbers old) da db ∙ ap (λ z. map with_numbers old ++ z) (sym (map-append (with_domain root) a b))))

  -- one part more of what is left
  pub turn : (a rest : List asks.Moment) (whole : List (asks.Moment × List (ℤ × ℤ))) (old mid : List Moment) → Gathers root a old mid
      → map with_numbers old ++ map (with_domain root) (a ++ rest) ≡ whole → map with_numbers mid ++ map (with_domain root) rest ≡ whole
  turn a rest whole old mid h w =
      let da = map (with_domain root) a in
      let dr = map (with_domain root) rest in
      ap (λ z. z ++ dr) h ∙ (append_assoc (map with_numbers old) da dr ∙ (ap (λ z. map with_numbers old ++ z) (sym (map-append (with_domain root) a rest)) ∙ w))

  -- where nothing is left
  pub over : (rest ms : List asks.Moment) (old new : List Moment) → rest ≡ [] → map with_numbers new ++ map (with_domain root) rest ≡ map with_numbers old ++ map (with_domain root) ms → Gathers root ms old new
  over rest ms old new e w = sym (append-nil (map with_numbers new)) ∙ (ap (λ z. map with_numbers new ++ map (with_domain root) z) (sym e) ∙ w)

-- The place of an item.

index_turn : (is_it : List ℕ → Bool) (xs : List (List ℕ × ℤ)) (i : ℕ) (x : List ℕ × ℤ) → i < length xs → x ≡ get_or xs i x → index_of is_it (drop i xs) ≡ (if is_it x.0 then 0 else suc (index_of is_it (drop (i + 1) xs)))
index_turn is_it xs i x h e = ap (index_of is_it) (drop_more xs i x h) ∙ ap (λ (z : List ℕ × ℤ). if is_it z.0 then 0 else suc (index_of is_it (drop (i + 1) xs))) (sym e)

pub index_here : (is_it : List ℕ → Bool) (xs : List (List ℕ × ℤ)) (i place whole : ℕ) (x : List ℕ × ℤ) → i < length xs → x ≡ get_or xs i x → is_it x.0 ≡ true → place + index_of is_it (drop i xs) ≡ whole → place ≡ whole
index_here is_it xs i place whole x h e same w =
    let here : index_of is_it (drop i xs) ≡ 0 = index_turn is_it xs i x h e ∙ ap (λ (b : Bool). if b then 0 else suc (index_of is_it (drop (i + 1) xs))) same in
    omega (arith, here, w)

pub index_later : (is_it : List ℕ → Bool) (xs : List (List ℕ × ℤ)) (i place whole : ℕ) (x : List ℕ × ℤ) → i < length xs → x ≡ get_or xs i x → is_it x.0 ≡ false → place + index_of is_it (drop i xs) ≡ whole → (place + 1) + index_of is_it (drop (i + 1) xs) ≡ whole
index_later is_it xs i place whole x h e other w =
    let rest : ℕ = index_of is_it (drop (i + 1) xs) in
    let here : index_of is_it (drop i xs) ≡ suc rest = index_turn is_it xs i x h e ∙ ap (λ (b : Bool). if b then 0 else suc (index_of is_it (drop (i + 1) xs))) other in
    omega (arith, here, w)

pub index_past : (is_it : List ℕ → Bool) (xs : List (List ℕ × ℤ)) (i place whole : ℕ) → length xs ≤ i → place + index_of is_it (drop i xs) ≡ whole → place ≡ whole
index_past is_it xs i place whole h w =
    let none : index_of is_it (drop i xs) ≡ 0 = ap (index_of is_it) (drop_all i xs h) in
    omega (arith, none, w)

-- One ask.

pub ask_is : (root : Grammar) (s : ℕ) (a : asks.Ask) (path path' field field' : List ℕ) (set : List (ℤ × ℤ)) (leaf : NumLeaf) → path' ≡ path → field' ≡ field → set ≡ leaf.set → slot_leaf root s ≡ Some leaf
    → ◌≡◌ {A = asks.Moment × List (ℤ × ℤ)} (asks.asks path' field' s a, set) (asks.asks path field s a, domain_of root s)
ask_is root s a path path' field field' set leaf e f g h = rw (e, f, g, domain root s leaf h) refl

-- Conditions, one after another.

tests_later : (ks : Known) (ts : List Test) (i : ℕ) → i < length ts → TestsIn ks (drop i ts) → TestsIn ks (drop (suc i) ts)
tests_later ks [] i h k = absurd (omega arith)
tests_later ks (t ∷ ts) zero h k = k.1
tests_later ks (t ∷ ts) (suc i) h k = tests_later ks ts i (omega arith) k

pub tests_rest : (ks : Known) (ts : List Test) (i : ℕ) → i < length ts → TestsIn ks (drop i ts) → TestsIn ks (drop (i + 1) ts)
tests_rest ks ts i h k = subst (λ (n : ℕ). TestsIn ks (drop n ts)) (sym (add-one i)) (tests_later ks ts i h k)

pub tests_turn : (root : Grammar) (f : Test → asks.Moment) (ts : List Test) (i : ℕ) (x : Test) (whole : List (asks.Moment × List (ℤ × ℤ))) (old mid : List Moment) → i < length ts → x ≡ get_or ts i x → Gathers root (f x ∷ []) old mid
    → map with_numbers old ++ map (with_domain root) (map f (drop i ts)) ≡ whole → map with_numbers mid ++ map (with_domain root) (map f (drop (i + 1) ts)) ≡ whole
tests_turn root f ts i x whole old mid h e g w =
    let front : map f (drop i ts) ≡ f x ∷ map f (drop (i + 1) ts) = ap (map f) (drop_more ts i x h) ∙ ap (λ z. f z ∷ map f (drop (i + 1) ts)) (sym e) in
    turn root (f x ∷ []) (map f (drop (i + 1) ts)) whole old mid g (ap (λ z. map with_numbers old ++ map (with_domain root) z) (sym front) ∙ w)
