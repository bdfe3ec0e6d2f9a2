-- The leaves of slots: one that is found, one more, and one less.
use Rattle.std.proofs.Common.{◌≡◌, ℕ, zero, suc, ◌<◌, Bool, true, false, ◌||◌, List, [], ◌∷◌, length, get_or, remove, Option, Some, None, nat_eq, refl, sym, ap, ◌∙◌, arith}
use Rattle.std.specs.Prelude.{if◌then◌else◌, is_some}
use Rattle.std.proofs.lemmas.Bool.Decides.{nat_tests}
use Rattle.acn_grammar.specs.declared.node.NumLeaf.{NumLeaf}
use Rattle.acn_events.specs.Event.{leaf_of, leaves_without}
use Rattle.acn_writer.specs.Leaves.{AreLeaves, end_of, has_leaf, leaf_place, leaves_in, with_leaf}
use Rattle.acn_writer.specs.declared.leaf.SlotLeaf.{SlotLeaf}
use denote.Bor.{Bor}

pub truth : {F : Type 0} (b : Bool) → (b ≡ true → F) → (b ≡ false → F) → F
truth true f g = f refl
truth false f g = g refl

pub same_some : {A : Type 0} {a b : A} → Some a ≡ Some b → a ≡ b
same_some e = cc

pub if_yes : {A : Type 0} (b : Bool) (x y : A) → b ≡ true → (if b then x else y) ≡ x
if_yes b x y e = rw e refl

pub if_no : {A : Type 0} (b : Bool) (x y : A) → b ≡ false → (if b then x else y) ≡ y
if_no b x y e = rw e refl

pub eq_turn : (a b : ℕ) → nat_eq a b ≡ false → nat_eq b a ≡ false
eq_turn a b h = grind (arith, nat_tests)

pub eq_here : (a : ℕ) → nat_eq a a ≡ true
eq_here a = grind (arith, nat_tests)

eq_other : (a s t : ℕ) → nat_eq a s ≡ true → nat_eq t s ≡ false → nat_eq a t ≡ false
eq_other a s t h k = grind (arith, nat_tests)

-- What the first entry and the others say.

abbrev look : Option (Bor NumLeaf) → Bool → Option NumLeaf → Option NumLeaf
look None b rest = rest
look (Some leaf) b rest = if b then Some leaf.now else rest

look_is : (s : ℕ) (e : SlotLeaf) (es : List SlotLeaf) → leaf_of s (leaves_in (e ∷ es)) ≡ look e.leaf (nat_eq e.slot s) (leaf_of s (leaves_in es))
look_is s e es = by e.leaf
  where
    by : (o : Option (Bor NumLeaf)) → leaf_of s (with_leaf e.slot o (leaves_in es)) ≡ look o (nat_eq e.slot s) (leaf_of s (leaves_in es))
    by None = refl
    by (Some leaf) = refl

abbrev cut : ℕ → Option (Bor NumLeaf) → Bool → (all less : List (ℕ × NumLeaf)) → List (ℕ × NumLeaf)
cut s None b all less = less
cut s (Some leaf) b all less = if b then all else (s, leaf.now) ∷ less

cut_is : (s : ℕ) (e : SlotLeaf) (es : List SlotLeaf) → leaves_without s (leaves_in (e ∷ es)) ≡ cut e.slot e.leaf (nat_eq e.slot s) (leaves_in es) (leaves_without s (leaves_in es))
cut_is s e es = by e.leaf
  where
    by : (o : Option (Bor NumLeaf)) → leaves_without s (with_leaf e.slot o (leaves_in es)) ≡ cut e.slot o (nat_eq e.slot s) (leaves_in es) (leaves_without s (leaves_in es))
    by None = refl
    by (Some leaf) = refl

-- One that is found.

pub has_of_leaf : (s : ℕ) (es : List SlotLeaf) (leaf : NumLeaf) → leaf_of s (leaves_in es) ≡ Some leaf → has_leaf s es ≡ true
has_of_leaf s [] leaf h = cc
has_of_leaf s (e ∷ es) leaf h = go e.leaf (nat_eq e.slot s) (sym (look_is s e es) ∙ h) (has_of_leaf s es leaf)
  where
    go : (o : Option (Bor NumLeaf)) (b : Bool) → look o b (leaf_of s (leaves_in es)) ≡ Some leaf → (leaf_of s (leaves_in es) ≡ Some leaf → has_leaf s es ≡ true) → (b || has_leaf s es) ≡ true
    go None true h f = refl
    go (Some l) true h f = refl
    go None false h f = f h
    go (Some l) false h f = f h

pub leaf_at : (s : ℕ) (es : List SlotLeaf) (d : SlotLeaf) → AreLeaves es → has_leaf s es ≡ true → (l : Bor NumLeaf) × ((get_or es (leaf_place s es) d).leaf ≡ Some l) × (leaf_of s (leaves_in es) ≡ Some l.now)
leaf_at s [] d a h = cc
leaf_at s (e ∷ es) d a h = go (nat_eq e.slot s) e.leaf refl a.0 h (look_is s e es) (leaf_at s es d a.1)
  where
    go : (b : Bool) (o : Option (Bor NumLeaf)) → e.leaf ≡ o → is_some o ≡ true → (b || has_leaf s es) ≡ true → leaf_of s (leaves_in (e ∷ es)) ≡ look o b (leaf_of s (leaves_in es))
        → (has_leaf s es ≡ true → (l : Bor NumLeaf) × ((get_or es (leaf_place s es) d).leaf ≡ Some l) × (leaf_of s (leaves_in es) ≡ Some l.now))
        → (l : Bor NumLeaf) × ((get_or (e ∷ es) (if b then 0 else suc (leaf_place s es)) d).leaf ≡ Some l) × (leaf_of s (leaves_in (e ∷ es)) ≡ Some l.now)
    go true None p q h k f = cc
    go false None p q h k f = cc
    go true (Some l) p q h k f = (l, p, k)
    go false (Some l) p q h k f = (let r = f h in (r.0, r.1, k ∙ r.2))

pub end_at : (s : ℕ) (es : List SlotLeaf) (d : SlotLeaf) → has_leaf s es ≡ true → end_of s es ≡ (get_or es (leaf_place s es) d).end
end_at s [] d h = cc
end_at s (e ∷ es) d h = go (nat_eq e.slot s) h (end_at s es d)
  where
    go : (b : Bool) → (b || has_leaf s es) ≡ true → (has_leaf s es ≡ true → end_of s es ≡ (get_or es (leaf_place s es) d).end) → (if b then e.end else end_of s es) ≡ (get_or (e ∷ es) (if b then 0 else suc (leaf_place s es)) d).end
    go true h f = refl
    go false h f = f h

pub leaf_place_in : (s : ℕ) (es : List SlotLeaf) → has_leaf s es ≡ true → leaf_place s es < length es
leaf_place_in s [] h = cc
leaf_place_in s (e ∷ es) h = go (nat_eq e.slot s) h (leaf_place_in s es)
  where
    go : (b : Bool) → (b || has_leaf s es) ≡ true → (has_leaf s es ≡ true → leaf_place s es < length es) → (if b then 0 else suc (leaf_place s es)) < length (e ∷ es)
    go true h f = omega arith
    go false h f = (let r = f h in omega (arith, r))

-- One less.

pub less_leaves : (s : ℕ) (es : List SlotLeaf) → AreLeaves es → has_leaf s es ≡ true → leaves_in (remove es (leaf_place s es)) ≡ leaves_without s (leaves_in es)
less_leaves s [] a h = cc
less_leaves s (e ∷ es) a h = go (nat_eq e.slot s) e.leaf refl a.0 h (cut_is s e es) (less_leaves s es a.1)
  where
    go : (b : Bool) (o : Option (Bor NumLeaf)) → e.leaf ≡ o → is_some o ≡ true → (b || has_leaf s es) ≡ true → leaves_without s (leaves_in (e ∷ es)) ≡ cut e.slot o b (leaves_in es) (leaves_without s (leaves_in es))
        → (has_leaf s es ≡ true → leaves_in (remove es (leaf_place s es)) ≡ leaves_without s (leaves_in es))
        → leaves_in (remove (e ∷ es) (if b then 0 else suc (leaf_place s es))) ≡ leaves_without s (leaves_in (e ∷ es))
    go true None p q h k f = cc
    go false None p q h k f = cc
    go true (Some l) p q h k f = sym k
    go false (Some l) p q h k f = ap (λ (o : Option (Bor NumLeaf)). with_leaf e.slot o (leaves_in (remove es (leaf_place s es)))) p ∙ (ap (λ (ls : List (ℕ × NumLeaf)). (e.slot, l.now) ∷ ls) (f h) ∙ sym k)

pub less_are : (es : List SlotLeaf) (i : ℕ) → AreLeaves es → AreLeaves (remove es i)
less_are [] zero a = tt
less_are [] (suc i) a = tt
less_are (e ∷ es) zero a = a.1
less_are (e ∷ es) (suc i) a = (a.0, less_are es i a.1)

pub less_length : (es : List SlotLeaf) (i : ℕ) → i < length es → suc (length (remove es i)) ≡ length es
less_length [] i h = absurd (omega arith)
less_length (e ∷ es) zero h = refl
less_length (e ∷ es) (suc i) h = ap suc (less_length es i (omega arith))

pub leaf_left : (s t : ℕ) (ls : List (ℕ × NumLeaf)) → nat_eq t s ≡ false → leaf_of t (leaves_without s ls) ≡ leaf_of t ls
leaf_left s t [] n = refl
leaf_left s t (e ∷ es) n = go (nat_eq e.0 s) (λ y. eq_other e.0 s t y n) (leaf_left s t es n)
  where
    go : (b : Bool) → (b ≡ true → nat_eq e.0 t ≡ false) → leaf_of t (leaves_without s es) ≡ leaf_of t es → leaf_of t (if b then es else e ∷ leaves_without s es) ≡ leaf_of t (e ∷ es)
    go true f k = sym (if_no (nat_eq e.0 t) (Some e.1) (leaf_of t es) (f refl))
    go false f k = ap (λ (o : Option NumLeaf). if nat_eq e.0 t then Some e.1 else o) k

pub end_left : (s t : ℕ) (es : List SlotLeaf) → nat_eq t s ≡ false → end_of t (remove es (leaf_place s es)) ≡ end_of t es
end_left s t [] n = refl
end_left s t (e ∷ es) n = go (nat_eq e.slot s) (λ y. eq_other e.slot s t y n) (end_left s t es n)
  where
    go : (b : Bool) → (b ≡ true → nat_eq e.slot t ≡ false) → end_of t (remove es (leaf_place s es)) ≡ end_of t es → end_of t (remove (e ∷ es) (if b then 0 else suc (leaf_place s es))) ≡ end_of t (e ∷ es)
    go true f k = sym (if_no (nat_eq e.slot t) e.end (end_of t es) (f refl))
    go false f k = ap (λ (n : ℕ). if nat_eq e.slot t then e.end else n) k
