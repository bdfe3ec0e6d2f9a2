-- Slots that are opened one behind another.
use Rattle.std.proofs.Common.{◌≡◌, ℕ, zero, suc, ◌+◌, ◌-◌, ◌<◌, ◌≤◌, Bool, true, false, List, [], ◌∷◌, ◌++◌, length, map, get_or, take, drop, Option, Some, None, nat_eq, refl, sym, ap, subst, ◌∙◌, arith, append_assoc, append-nil, ◌||◌, unwrap_or}
use Rattle.std.specs.Prelude.{if◌then◌else◌, Result, Ok, Err, OnOk}
use Rattle.std.specs.List.{AllByRecursion}
use Rattle.std.proofs.lemmas.List.{drop_more, drop_all, take_more}
use Rattle.acn_grammar.specs.Asks.{FieldPaths, field_of, field_steps, field_path}
use Rattle.acn_grammar.specs.Grammar.{Grammar, Fields}
use Rattle.acn_grammar.specs.Slots.{slot_leaf}
use Rattle.acn_grammar.specs.Tree.{holds}
use Rattle.acn_determinants.specs.Determinants.{IsLeafIn, steps_of, SequenceIn}
use Rattle.acn_determinants.specs.declared.homes.Determinant.{Determinant}
use Rattle.acn_asking.specs.Gathered.{paths_of, slots_of, LeavesIn, Opened, at_path}
use Rattle.acn_asking.specs.declared.opened.Open.{Open}

pub paths_both : (as' bs : List Open) → paths_of (as' ++ bs) ≡ paths_of bs ++ paths_of as'
paths_both [] bs = sym (append-nil (paths_of bs))
paths_both (a ∷ as') bs = ap (λ (z : FieldPaths). z ++ (a.slot, a.field) ∷ []) (paths_both as' bs) ∙ append_assoc (paths_of bs) (paths_of as') ((a.slot, a.field) ∷ [])

pub leaves_both : (root : Grammar) (as' bs : List Open) → LeavesIn root as' → LeavesIn root bs → LeavesIn root (as' ++ bs)
leaves_both root [] bs h g = g
leaves_both root (a ∷ as') bs h g = (h.0, leaves_both root as' bs h.1 g)

leaf_at : (root : Grammar) (os : List Open) (i : ℕ) (o : Open) → i < length os → o ≡ get_or os i o → LeavesIn root os → slot_leaf root o.slot ≡ Some o.leaf.now
leaf_at root os i o h e l = subst (λ (x : Open). slot_leaf root x.slot ≡ Some x.leaf.now) (sym e) (there os i h l)
  where
    there : (xs : List Open) (k : ℕ) → k < length xs → LeavesIn root xs → slot_leaf root (get_or xs k o).slot ≡ Some (get_or xs k o).leaf.now
    there [] k h l = absurd (omega arith)
    there (x ∷ xs) zero h l = l.0
    there (x ∷ xs) (suc k) h l = there xs k (omega arith) l.1

-- the last slot of those in front of a place
shorter : (os : List Open) (at : ℕ) (o : Open) → at < length os → o ≡ get_or os at o → paths_of (take (at + 1) os) ≡ (o.slot, o.field) ∷ paths_of (take at os)
shorter os at o h e = ap paths_of (take_more os at o h) ∙ (paths_both (take at os) (get_or os at o ∷ []) ∙ ap (λ (x : Open). (x.slot, x.field) ∷ paths_of (take at os)) (sym e))

seen_last : (os : List Open) (n at : ℕ) (o : Open) → at < length os → o ≡ get_or os at o → n ≡ at + 1 → paths_of (take n os) ≡ (o.slot, o.field) ∷ paths_of (take at os)
seen_last os n at o h e k = ap (λ m. paths_of (take m os)) k ∙ shorter os at o h e

-- the slot is found
pub found_field : (os : List Open) (n at s : ℕ) (o : Open) (whole : List ℕ) → at < length os → o ≡ get_or os at o → n ≡ at + 1 → nat_eq o.slot s ≡ true → field_of (paths_of (take n os)) s ≡ whole → o.field ≡ whole
found_field os n at s o whole h e k same w = sym (first (nat_eq o.slot s) same) ∙ (sym (ap (λ p. field_of p s) (seen_last os n at o h e k)) ∙ w)
  where
    first : (b : Bool) → b ≡ true → (if b then o.field else field_of (paths_of (take at os)) s) ≡ o.field
    first true e = refl
    first false e = cc

pub found_leaf : (os : List Open) (at s : ℕ) (o : Open) → at < length os → o ≡ get_or os at o → o.slot ≡ s → (root : Grammar) → LeavesIn root os → slot_leaf root s ≡ Some o.leaf.now
found_leaf os at s o h e same root l = ap (slot_leaf root) (sym same) ∙ leaf_at root os at o h e l

pub other_field : (os : List Open) (n at m s : ℕ) (o : Open) (whole : List ℕ) → at < length os → o ≡ get_or os at o → n ≡ at + 1 → m ≡ at → nat_eq o.slot s ≡ false → field_of (paths_of (take n os)) s ≡ whole → field_of (paths_of (take m os)) s ≡ whole
other_field os n at m s o whole h e k j other w = ap (λ i. field_of (paths_of (take i os)) s) j ∙ (sym (ap (λ p. field_of p s) (seen_last os n at o h e k) ∙ later (nat_eq o.slot s) other) ∙ w)
  where
    later : (b : Bool) → b ≡ false → (if b then o.field else field_of (paths_of (take at os)) s) ≡ field_of (paths_of (take at os)) s
    later true e = cc
    later false e = refl

pub other_there : (os : List Open) (n at m s : ℕ) (o : Open) → at < length os → o ≡ get_or os at o → n ≡ at + 1 → m ≡ at → nat_eq o.slot s ≡ false → holds (slots_of (take n os)) s ≡ true → holds (slots_of (take m os)) s ≡ true
other_there os n at m s o h e k j other w = ap (λ i. holds (slots_of (take i os)) s) j ∙ later (nat_eq o.slot s) other (subst (λ (p : FieldPaths). holds (map (λ x. x.0) p) s ≡ true) (seen_last os n at o h e k) w)
  where
    later : (b : Bool) → b ≡ false → (b || holds (slots_of (take at os)) s) ≡ true → holds (slots_of (take at os)) s ≡ true
    later true e g = cc
    later false e g = g

pub none_there : (os : List Open) (n s : ℕ) → n ≡ 0 → holds (slots_of (take n os)) s ≡ true → ⊥
none_there os n s e h = (let g : holds (slots_of (take 0 os)) s ≡ true = rw e at h in empty os g)
  where
    empty : (xs : List Open) → holds (slots_of (take 0 xs)) s ≡ true → ⊥
    empty [] g = cc
    empty (x ∷ xs) g = cc

-- Slots that are opened.

pub opened_none : (IsIn : Grammar → Type 0) (old : List Open) → Opened [] IsIn old old
opened_none IsIn old = record { added = []; is = sym (append-nil old); paths = refl; leaves = λ root i. tt }

pub opened_start : (path : List ℕ) (ds : List Determinant) (n : ℕ) (IsIn : Grammar → Type 0) (old : List Open) → length ds ≤ n → Opened (map (at_path path) (drop n ds)) IsIn old old
opened_start path ds n IsIn old h = subst (λ (own : FieldPaths). Opened own IsIn old old) (sym (ap (map (at_path path)) (drop_all n ds h))) (opened_none IsIn old)

pub opened_home : (f : ℕ → ℕ × List ℕ) (home : List ℕ) (IsIn : Grammar → Type 0) (old : List Open) → length home ≡ 0 → Opened (map f home) IsIn old old
opened_home f [] IsIn old h = opened_none IsIn old
opened_home f (s ∷ home) IsIn old h = absurd (omega arith)

pub opened_one : (IsIn : Grammar → Type 0) (old new : List Open) (o : Open) → new ≡ old ++ o ∷ [] → ((root : Grammar) → IsIn root → slot_leaf root o.slot ≡ Some o.leaf.now) → Opened ((o.slot, o.field) ∷ []) IsIn old new
opened_one IsIn old new o e l = record { added = o ∷ []; is = e; paths = refl; leaves = λ root i. (l root i, tt) }

pub opened_more : (a b : FieldPaths) (A B : Grammar → Type 0) (old mid new : List Open) → ((root : Grammar) → A root → B root) → Opened a A old mid → Opened b B mid new → Opened (b ++ a) A old new
opened_more a b A B old mid new f x y = record {
  added = x.added ++ y.added;
  is = y.is ∙ (ap (λ z. z ++ y.added) x.is ∙ append_assoc old x.added y.added);
  paths = paths_both x.added y.added ∙ (ap (λ z. z ++ paths_of x.added) y.paths ∙ ap (λ z. b ++ z) x.paths);
  leaves = λ root i. leaves_both root x.added y.added (x.leaves root i) (y.leaves root (f root i));
}

leaf_of : (root : Grammar) (ds : List Determinant) (i : ℕ) (d : Determinant) → i < length ds → d ≡ get_or ds i d → AllByRecursion (IsLeafIn root) ds → IsLeafIn root d
leaf_of root ds i d h e l = subst (λ (x : Determinant). IsLeafIn root x) (sym e) (there ds i h l)
  where
    there : (xs : List Determinant) (k : ℕ) → k < length xs → AllByRecursion (IsLeafIn root) xs → IsLeafIn root (get_or xs k d)
    there [] k h l = absurd (omega arith)
    there (x ∷ xs) zero h l = l.0
    there (x ∷ xs) (suc k) h l = there xs k (omega arith) l.1

-- one determinant more, in front of those that were opened
pub opened_turn : (path : List ℕ) (ds : List Determinant) (n at m : ℕ) (d : Determinant) (old mid new : List Open) → at < length ds → d ≡ get_or ds at d → n ≡ at + 1 → m ≡ at
    → Opened (map (at_path path) (drop n ds)) (λ root. AllByRecursion (IsLeafIn root) ds) old mid → Opened (at_path path d ∷ []) (λ root. IsLeafIn root d) mid new
    → Opened (map (at_path path) (drop m ds)) (λ root. AllByRecursion (IsLeafIn root) ds) old new
opened_turn path ds n at m d old mid new h e k j x y =
    let more = opened_more _ _ _ _ old mid new (λ root i. leaf_of root ds at d h e i) x y in
    let turn : at_path path d ∷ map (at_path path) (drop n ds) ≡ map (at_path path) (drop m ds) =
    ap (λ q. at_path path d ∷ map (at_path path) (drop q ds)) k ∙ (ap (λ (z : Determinant). at_path path z ∷ map (at_path path) (drop (at + 1) ds)) e ∙ sym (ap (λ q. map (at_path path) (drop q ds)) j ∙ ap (map (at_path path)) (drop_more ds at d h))) in
    subst (λ (own : FieldPaths). Opened own (λ root. AllByRecursion (IsLeafIn root) ds) old new) turn more

pub opened_weaker : (a b : FieldPaths) (A B : Grammar → Type 0) (old new : List Open) → a ≡ b → ((root : Grammar) → B root → A root) → Opened a A old new → Opened b B old new
opened_weaker a b A B old new e f x = record { added = x.added; is = x.is; paths = x.paths ∙ e; leaves = λ root i. x.leaves root (f root i) }

-- the paths of the determinants are those of the slots
pub home_paths : (path : List ℕ) (fields : Fields) (ds : List Determinant) (home : List ℕ) → map steps_of ds ≡ map (λ (s : ℕ). (s, field_steps fields 0 s)) home → map (at_path path) ds ≡ map (λ (s : ℕ). (s, field_path path fields s)) home
home_paths path fields ds home e = sym (front ds) ∙ (ap (map under) e ∙ back home)
  where
    under : ℕ × Option (List ℕ) → ℕ × List ℕ
    under x = (x.0, path ++ unwrap_or x.1 [])

    front : (xs : List Determinant) → map under (map steps_of xs) ≡ map (at_path path) xs
    front [] = refl
    front (x ∷ xs) = ap (λ z. at_path path x ∷ z) (front xs)

    back : (ss : List ℕ) → map under (map (λ (s : ℕ). (s, field_steps fields 0 s)) ss) ≡ map (λ (s : ℕ). (s, field_path path fields s)) ss
    back [] = refl
    back (s ∷ ss) = ap (λ z. (s, field_path path fields s) ∷ z) (back ss)

pub on_ok : {X E A B : Type 0} (r : Result X E) → OnOk r A → (A → B) → OnOk r B
on_ok (Ok x) h f = f h
on_ok (Err e) h f = tt
