-- One fault comes first.
use Rattle.std.proofs.Common.{◌≡◌, ℕ, zero, suc, ◌<◌, ◌≤◌, ℤ, Bool, true, false, List, [], ◌∷◌, ◌++◌, length, map, Option, Some, None, refl, sym, ap, ◌∙◌, subst, arith, inl, inr, ◌⊎◌, nat_eq, nat_lt, ◌||◌}
use Rattle.std.proofs.lemmas.Bool.{or_left, or_right, ltb-true, eqb-true}
use Rattle.std.specs.Prelude.{slice_get, Contains, if◌then◌else◌}
use Rattle.std.proofs.lemmas.Bool.Decides.{nat_tests}
use Rattle.acn_grammar.specs.Check.{CheckFault, forward, det_kind, det_width, overlap, absent_unclear, unused, no_item, mixed_choice, too_long, too_many_open, too_many_conditions, too_many_values, terminator_ambiguous, number_of_fault, test_slot, open_at, IsStrictly, NodeAt, UseOf, IsChoice, equals_on, Evidence, rank, Before}
use Rattle.acn_grammar.specs.Env.{Env, at_slot, AllHold}
use Rattle.acn_grammar.specs.Grammar.{Grammar, Form, Alternatives, num, octets, bits, text, seq, list, choice, contained}
use Rattle.acn_grammar.specs.Interval.{span, value_count}
use Rattle.acn_grammar.specs.Tree.{IsTree, holds, is_slot}
use Rattle.acn_grammar.specs.Walk.{Stand, Use, uses, slot_of, slot_here, nodes_of, conditions_of}
use Rattle.acn_grammar.specs.declared.node.ChoiceRule.{ChoiceRule}
use Rattle.acn_grammar.specs.declared.node.ChoiceRule.TheVariants.{Tests}
use Rattle.acn_grammar.specs.declared.node.Test.{Test}
use Rattle.acn_grammar.specs.declared.node.Test.TheVariants.{Flag, Equals}
use Rattle.acn_packet_laws.specs.Laws.{OneFirstFault}
use Rattle.acn_packet_laws.proofs.FirstFaults.{five}
use Rattle.acn_packet_laws.proofs.Homes.{truth}
use Rattle.acn_packet_laws.proofs.Placed.{has_field, field_is, twice, tree_numbered, tree_rules}
use Rattle.acn_grammar.proofs.WholeTests.{either}
use Rattle.acn_grammar.proofs.SlotLists.{contains_holds, holds_contains, same_eq}

-- Numbers of slots in ascending order.

lt_not : (n m : ℕ) → nat_lt n m ≡ false → m ≤ n
lt_not n m h = grind (arith, nat_tests)

eq_not : (n m : ℕ) → n < m → nat_eq n m ≡ false
eq_not n m h = grind (arith, nat_tests)

above : (a : ℕ) (xs : List ℕ) → IsStrictly (a ∷ xs) → (s : ℕ) → holds xs s ≡ true → a < s
above a [] h s k = cc
above a (b ∷ xs) h s k =
    let low = h.0 in
    either {F = a < s} (nat_eq b s) (holds xs s) k
    (λ q. let e = eqb-true b s q in omega arith)
    (λ q. let r = above b xs h.1 s q in omega arith)

later : (a : ℕ) (xs : List ℕ) → IsStrictly (a ∷ xs) → IsStrictly xs
later a [] h = tt
later a (b ∷ xs) h = h.1

not_above : (a : ℕ) (xs : List ℕ) → IsStrictly (a ∷ xs) → holds xs a ≡ false
not_above a xs h = truth {F = holds xs a ≡ false} (holds xs a) (λ k. let low = above a xs h a k in absurd (omega arith)) (λ k. k)

behind : (a : Bool) (p q : Bool) → a ≡ false → (a || p) ≡ (a || q) → p ≡ q
behind true p q h e = cc
behind false p q h e = e

same_keys : (xs ys : List ℕ) → IsStrictly xs → IsStrictly ys → ((s : ℕ) → holds xs s ≡ holds ys s) → xs ≡ ys
same_keys [] [] h k f = refl
same_keys [] (y ∷ ys) h k f = let no = f y in let yes' = or_left (nat_eq y y) (holds ys y) (same_eq y) in cc
same_keys (x ∷ xs) [] h k f = let no = f x in let yes' = or_left (nat_eq x x) (holds xs x) (same_eq x) in cc
same_keys (x ∷ xs) (y ∷ ys) h k f =
    let one : (y ≡ x) ⊎ (y < x) = either {F = (y ≡ x) ⊎ (y < x)} (nat_eq y x) (holds ys x) (sym (f x) ∙ or_left (nat_eq x x) (holds xs x) (same_eq x)) (λ q. inl (eqb-true y x q)) (λ q. inr (above y ys k x q)) in
    let two : (x ≡ y) ⊎ (x < y) = either {F = (x ≡ y) ⊎ (x < y)} (nat_eq x y) (holds xs y) (f y ∙ or_left (nat_eq y y) (holds ys y) (same_eq y)) (λ q. inl (eqb-true x y q)) (λ q. inr (above x xs h y q)) in
    meet (same one two) (λ e. same_keys xs ys (later x xs h) (later y ys k) (rest e))
  where
    same : (y ≡ x) ⊎ (y < x) → (x ≡ y) ⊎ (x < y) → x ≡ y
    same (inl a) b = sym a
    same (inr a) (inl b) = b
    same (inr a) (inr b) = absurd (omega (arith, a, b))

    rest : x ≡ y → (s : ℕ) → holds xs s ≡ holds ys s
    rest e s = truth {F = holds xs s ≡ holds ys s} (nat_eq x s)
        (λ q.
        let is = eqb-true x s q in
        let no : holds xs s ≡ false = ap (holds xs) (sym is) ∙ not_above x xs h in
        let none : holds ys s ≡ false = ap (holds ys) (sym is ∙ e) ∙ not_above y ys k in
        no ∙ sym none)
        (λ q. behind (nat_eq x s) (holds xs s) (holds ys s) q (f s ∙ ap (λ n. nat_eq n s || holds ys s) (sym e)))

    meet : x ≡ y → (x ≡ y → xs ≡ ys) → x ∷ xs ≡ y ∷ ys
    meet e more = let tails = more e in cc

at_first : (t : Bool) (a b : Option ℤ) → t ≡ true → (if t then a else b) ≡ a
at_first true a b h = refl
at_first false a b h = cc

at_later : (t : Bool) (a b : Option ℤ) → t ≡ false → (if t then a else b) ≡ b
at_later true a b h = cc
at_later false a b h = refl

head_same : (x y : ℕ) (xs ys : List ℕ) → x ∷ xs ≡ y ∷ ys → (x ≡ y) × (xs ≡ ys)
head_same x y xs ys e = (cc, cc)

pub some_same : {A : Type 0} (x y : A) → Some x ≡ Some y → x ≡ y
some_same x y e = cc

pair_same : (e f : ℕ × ℤ) → e.0 ≡ f.0 → e.1 ≡ f.1 → e ≡ f
pair_same (a, b) (c, d) h k = cc

same_values : (env other : Env) → map (λ e. e.0) env ≡ map (λ e. e.0) other → IsStrictly (map (λ e. e.0) env) → ((s : ℕ) → holds (map (λ e. e.0) env) s ≡ true → at_slot env s ≡ at_slot other s) → env ≡ other
same_values [] [] e h f = refl
same_values [] (y ∷ ys) e h f = cc
same_values (x ∷ xs) [] e h f = cc
same_values (x ∷ xs) (y ∷ ys) e h f =
    let keys = head_same x.0 y.0 (map (λ e'. e'.0) xs) (map (λ e'. e'.0) ys) e in
    let here = f x.0 (or_left (nat_eq x.0 x.0) (holds (map (λ e'. e'.0) xs) x.0) (same_eq x.0)) in
    let left = at_first (nat_eq x.0 x.0) (Some x.1) (at_slot xs x.0) (same_eq x.0) in
    let right = at_first (nat_eq y.0 x.0) (Some y.1) (at_slot ys x.0) (ap (λ n. nat_eq n x.0) (sym keys.0) ∙ same_eq x.0) in
    let number : x.1 ≡ y.1 = some_same x.1 y.1 (sym left ∙ (here ∙ right)) in
    let rest = same_values xs ys keys.1 (later x.0 (map (λ e'. e'.0) xs) h) (λ s q.
    let low = eq_not x.0 s (above x.0 (map (λ e'. e'.0) xs) h s q) in
    sym (at_later (nat_eq x.0 s) (Some x.1) (at_slot xs s) low) ∙ (f s (or_right (nat_eq x.0 s) (holds (map (λ e'. e'.0) xs) s) q) ∙ at_later (nat_eq y.0 s) (Some y.1) (at_slot ys s) (ap (λ n. nat_eq n s) (sym keys.0) ∙ low))) in
    let first = pair_same x y keys.0 number in
    cc

-- conditions that hold force the numbers of their slots
forced : (env other : Env) (ts : List Test) → AllHold env ts → AllHold other ts → (s : ℕ) → holds (map test_slot ts) s ≡ true → at_slot env s ≡ at_slot other s
forced env other [] h k s q = cc
forced env other (Flag t ∷ ts) h k s q = either {F = at_slot env s ≡ at_slot other s} (nat_eq t s) (holds (map test_slot ts) s) q
    (λ e. subst (λ n. at_slot env n ≡ at_slot other n) (eqb-true t s e) (h.0 ∙ sym k.0))
    (λ e. forced env other ts h.1 k.1 s e)
forced env other (Equals t n ∷ ts) h k s q = either {F = at_slot env s ≡ at_slot other s} (nat_eq t s) (holds (map test_slot ts) s) q
    (λ e. subst (λ m. at_slot env m ≡ at_slot other m) (eqb-true t s e) (h.0 ∙ sym k.0))
    (λ e. forced env other ts h.1 k.1 s e)

same_holds : (xs ys : List ℕ) (s : ℕ) → (Contains xs s → Contains ys s) → (Contains ys s → Contains xs s) → holds xs s ≡ holds ys s
same_holds xs ys s f g = truth {F = holds xs s ≡ holds ys s} (holds xs s)
    (λ h. h ∙ sym (contains_holds ys s (f (holds_contains xs s h))))
    (λ h. truth {F = holds xs s ≡ holds ys s} (holds ys s) (λ k. let no = contains_holds xs s (g (holds_contains ys s k)) in cc) (λ k. h ∙ sym k))

-- The field of a slot.

any_get : (l : List Stand) (j s : ℕ) (at : Stand) → slice_get l j ≡ Some at → slot_here at.role ≡ Some s → has_field s l ≡ true
any_get [] j s at e h = cc
any_get (x ∷ l) zero s at e h = or_left (field_is s x) (has_field s l) (ap (λ (y : Stand). field_is s y) (some_same x at e) ∙ (ap (is_slot s) h ∙ same_eq s))
any_get (x ∷ l) (suc j) s at e h = or_right (field_is s x) (has_field s l) (any_get l j s at e h)

abbrev det_of : ℕ → List Stand → List ℕ
det_of s [] = []
det_of s (x ∷ l) = if field_is s x then x.path else det_of s l

if_first : (t : Bool) (a b : List ℕ) → t ≡ true → (if t then a else b) ≡ a
if_first true a b h = refl
if_first false a b h = cc

if_later : (t : Bool) (a b : List ℕ) → t ≡ false → (if t then a else b) ≡ b
if_later true a b h = cc
if_later false a b h = refl

det_is : (l : List Stand) (s : ℕ) → ((a b : List Stand) → l ≡ a ++ b → has_field s a ≡ true → has_field s b ≡ true → ⊥) → (j : ℕ) (at : Stand) → slice_get l j ≡ Some at → slot_here at.role ≡ Some s → det_of s l ≡ at.path
det_is [] s once j at e h = cc
det_is (x ∷ l) s once zero at e h =
    let is = some_same x at e in
    if_first (field_is s x) x.path (det_of s l) (ap (λ (y : Stand). field_is s y) is ∙ (ap (is_slot s) h ∙ same_eq s)) ∙ ap (λ (y : Stand). y.path) is
det_is (x ∷ l) s once (suc j) at e h = truth {F = det_of s (x ∷ l) ≡ at.path} (field_is s x)
    (λ q. absurd (once (x ∷ []) l refl (or_left (field_is s x) false q) (any_get l j s at e h)))
    (λ q. if_later (field_is s x) x.path (det_of s l) q ∙ det_is l s (λ a b w p r. once (x ∷ a) b (ap (λ m. x ∷ m) w) (or_right (field_is s x) (has_field s a) p) r) j at e h)

-- What the rank of a fault tells of it.

abbrev path_of : Option Stand → List ℕ
path_of None = []
path_of (Some at) = at.path

abbrev slot_or : Option ℕ → ℕ
slot_or None = 0
slot_or (Some s) = s

abbrev slot_used : Option Use → ℕ
slot_used None = 0
slot_used (Some use') = slot_of use'

abbrev use_slot : Option Stand → ℕ → ℕ
use_slot None u = 0
use_slot (Some at) u = slot_used (slice_get (uses at) u)

abbrev own_slot : Option Stand → ℕ
own_slot None = 0
own_slot (Some at) = slot_or (slot_here at.role)

abbrev open_of : Option Stand → ℕ
open_of None = 0
open_of (Some at) = open_at at

abbrev values_of : CheckFault → Env
values_of (overlap path i j values) = values
values_of _ = []

no_values : (f : CheckFault) → (number_of_fault f ≡ 4 → ⊥) → values_of f ≡ []
no_values (forward user det) h = refl
no_values (det_kind user det) h = refl
no_values (det_width det) h = refl
no_values (overlap path i j values) h = absurd (h refl)
no_values (absent_unclear path) h = refl
no_values (unused det) h = refl
no_values (no_item path i) h = refl
no_values (mixed_choice path) h = refl
no_values (too_long n) h = refl
no_values (too_many_open path n) h = refl
no_values (too_many_conditions det n) h = refl
no_values (too_many_values n) h = refl
no_values (terminator_ambiguous path) h = refl

record IsOverlap (f : CheckFault) : Type 0 where
  path : List ℕ
  first : ℕ
  second : ℕ
  numbers : Env
  is : f ≡ overlap path first second numbers

overlap_of : (f : CheckFault) → number_of_fault f ≡ 4 → IsOverlap f
overlap_of (forward user det) h = absurd (omega (arith, h))
overlap_of (det_kind user det) h = absurd (omega (arith, h))
overlap_of (det_width det) h = absurd (omega (arith, h))
overlap_of (overlap path i j values) h = record { path = path; first = i; second = j; numbers = values; is = refl }
overlap_of (absent_unclear path) h = absurd (omega (arith, h))
overlap_of (unused det) h = absurd (omega (arith, h))
overlap_of (no_item path i) h = absurd (omega (arith, h))
overlap_of (mixed_choice path) h = absurd (omega (arith, h))
overlap_of (too_long n) h = absurd (omega (arith, h))
overlap_of (too_many_open path n) h = absurd (omega (arith, h))
overlap_of (too_many_conditions det n) h = absurd (omega (arith, h))
overlap_of (too_many_values n) h = absurd (omega (arith, h))
overlap_of (terminator_ambiguous path) h = absurd (omega (arith, h))

abbrev item_at : ℕ → List ℕ → ℕ
item_at n xs = slot_or (slice_get xs n)

head_is : (root : Grammar) (f : CheckFault) (k u : ℕ) → item_at 0 (rank root f k u) ≡ number_of_fault f
head_is root (forward user det) k u = refl
head_is root (det_kind user det) k u = refl
head_is root (det_width det) k u = refl
head_is root (overlap path i j values) k u = refl
head_is root (absent_unclear path) k u = refl
head_is root (unused det) k u = refl
head_is root (no_item path i) k u = refl
head_is root (mixed_choice path) k u = refl
head_is root (too_long n) k u = refl
head_is root (too_many_open path n) k u = refl
head_is root (too_many_conditions det n) k u = refl
head_is root (too_many_values n) k u = refl
head_is root (terminator_ambiguous path) k u = refl

choice_is : (root : Grammar) (form : Form) (cases : Alternatives) (rule : ChoiceRule) → IsChoice root form cases rule → form ≡ choice cases rule
choice_is root (choice cases' rule') cases rule h = let one = h.0 in let two = h.1 in cc
choice_is root (num leaf) cases rule h = absurd h
choice_is root (octets sizing) cases rule h = absurd h
choice_is root (bits sizing) cases rule h = absurd h
choice_is root (text leaf) cases rule h = absurd h
choice_is root (seq _ home) cases rule h = absurd h
choice_is root (list sizing g) cases rule h = absurd h
choice_is root (contained sizing g) cases rule h = absurd h

same_cases : (a b : Alternatives) → choice a Tests ≡ choice b Tests → a ≡ b
same_cases a b e = cc

module _ (root : Grammar) where
  -- one comes before the other, or they are the same
  same_rank : (xs ys : List ℕ) → length xs ≡ length ys → (Before root xs ys → ⊥) → (Before root ys xs → ⊥) → xs ≡ ys
  same_rank [] [] l f g = refl
  same_rank [] (y ∷ ys) l f g = absurd (omega (arith, l))
  same_rank (x ∷ xs) [] l f g = absurd (omega (arith, l))
  same_rank (x ∷ xs) (y ∷ ys) l f g =
      truth {F = x ∷ xs ≡ y ∷ ys} (nat_lt x y) (λ h. absurd (f (inl (ltb-true x y h)))) (λ h.
      truth {F = x ∷ xs ≡ y ∷ ys} (nat_lt y x) (λ k. absurd (g (inl (ltb-true y x k)))) (λ k.
      let low = lt_not x y h in
      let high = lt_not y x k in
      let e : x ≡ y = omega (arith, low, high) in
      let rest = same_rank xs ys (omega (arith, l)) (λ b. f (inr (e, b))) (λ b. g (inr (sym e, b))) in
      cc))

  abbrev here : ℕ → Option Stand
  here k = slice_get (nodes_of root) k

  abbrev candidates : Env → (k u i j : ℕ) → List CheckFault
  candidates vs k u i j =
      too_many_values 0
      ∷ forward (path_of (here k)) (det_of (use_slot (here k) u) (nodes_of root))
      ∷ det_kind (path_of (here k)) (det_of (use_slot (here k) u) (nodes_of root))
      ∷ det_width (path_of (here k))
      ∷ overlap (path_of (here k)) i j vs
      ∷ absent_unclear (path_of (here k))
      ∷ unused (path_of (here k))
      ∷ no_item (path_of (here k)) i
      ∷ mixed_choice (path_of (here k))
      ∷ too_long (span root).greatest
      ∷ too_many_open (path_of (here k)) (open_of (here k))
      ∷ too_many_conditions (path_of (here k)) (equals_on root (own_slot (here k)))
      ∷ too_many_values (value_count root)
      ∷ terminator_ambiguous (path_of (here k))
      ∷ []

  -- the fault of a rank
  abbrev rebuilt : Env → List ℕ → Option CheckFault
  rebuilt vs r = slice_get (candidates vs (item_at 1 r) (item_at 2 r) (item_at 3 r) (item_at 4 r)) (item_at 0 r)

  place_is : (k : ℕ) (at : Stand) (path : List ℕ) → NodeAt root k at → at.path ≡ path → path_of (here k) ≡ path
  place_is k at path is e = ap path_of is ∙ e

  module _ (tree : IsTree root) where
    det_here : (k u : ℕ) (user det : List ℕ) (use' : Use) (j : ℕ) → UseOf root k u user det use' j → det_of (use_slot (here k) u) (nodes_of root) ≡ det
    det_here k u user det use' j r =
        ap (λ s. det_of s (nodes_of root)) (ap (λ o. use_slot o u) r.is_at ∙ ap slot_used r.is_use)
        ∙ (det_is (nodes_of root) (slot_of use') (λ a b e p q. twice (nodes_of root) (tree_numbered root tree) (tree_rules root tree) a b e (slot_of use') p q) j r.field r.is_field r.slot ∙ r.det_path)

    told : (f : CheckFault) (k u : ℕ) → Evidence root f k u → rebuilt (values_of f) (rank root f k u) ≡ Some f
    told (forward user det) k u e = ap (λ x. Some (forward x (det_of (use_slot (here k) u) (nodes_of root)))) (place_is k e.use_is.at user e.use_is.is_at e.use_is.user_path) ∙ ap (λ y. Some (forward user y)) (det_here k u user det e.named e.field_at e.use_is)
    told (det_kind user det) k u e = ap (λ x. Some (det_kind x (det_of (use_slot (here k) u) (nodes_of root)))) (place_is k e.use_is.at user e.use_is.is_at e.use_is.user_path) ∙ ap (λ y. Some (det_kind user y)) (det_here k u user det e.named e.field_at e.use_is)
    told (det_width det) k u e = ap (λ x. Some (det_width x)) (place_is k e.at det e.is_at e.path_is)
    told (overlap path i j values) k u e = ap (λ x. Some (overlap x i j values)) (place_is k e.choice_is.at path e.choice_is.is_at e.choice_is.path_is)
    told (absent_unclear path) k u e = ap (λ x. Some (absent_unclear x)) (place_is k e.at path e.is_at e.path_is)
    told (unused det) k u e = ap (λ x. Some (unused x)) (place_is k e.at det e.is_at e.path_is)
    told (no_item path i) k u e = ap (λ x. Some (no_item x i)) (place_is k e.choice_is.at path e.choice_is.is_at e.choice_is.path_is)
    told (mixed_choice path) k u e = ap (λ x. Some (mixed_choice x)) (place_is k e.choice_is.at path e.choice_is.is_at e.choice_is.path_is)
    told (too_long n) k u e = ap (λ x. Some (too_long x)) (sym e.bits_are)
    told (too_many_open path n) k u e = ap (λ x. Some (too_many_open x (open_of (here k)))) (place_is k e.at path e.is_at e.path_is) ∙ ap (λ y. Some (too_many_open path y)) (ap open_of e.is_at ∙ sym e.count_is)
    told (too_many_conditions det n) k u e =
        ap (λ x. Some (too_many_conditions x (equals_on root (own_slot (here k))))) (place_is k e.at det e.is_at e.path_is)
        ∙ ap (λ y. Some (too_many_conditions det y)) (ap (equals_on root) (ap own_slot e.is_at ∙ ap slot_or e.slot_is) ∙ sym e.count_is)
    told (too_many_values n) k u e = ap (λ x. Some (too_many_values x)) (sym e.count_is)
    told (terminator_ambiguous path) k u e = ap (λ x. Some (terminator_ambiguous x)) (place_is k e.at path e.is_at e.path_is)

  -- the numbers of two overlaps of one rank
  overlap_values : (path path' : List ℕ) (i j i' j' : ℕ) (vs vs' : Env) (k u k' u' : ℕ) → Evidence root (overlap path i j vs) k u → Evidence root (overlap path' i' j' vs') k' u' → (k ≡ k') × (i ≡ i') × (j ≡ j') → vs ≡ vs'
  overlap_values path path' i j i' j' vs vs' k u k' u' e e' same =
      let at : e.choice_is.at ≡ e'.choice_is.at = some_same e.choice_is.at e'.choice_is.at (sym e.choice_is.is_at ∙ (ap here same.0 ∙ e'.choice_is.is_at)) in
      let cases : e.cases ≡ e'.cases = same_cases e.cases e'.cases (sym (choice_is root e.choice_is.at.form e.cases Tests e.choice_is.form_is) ∙ (ap (λ (x : Stand). x.form) at ∙ choice_is root e'.choice_is.at.form e'.cases Tests e'.choice_is.form_is)) in
      let one : e.overlaps.one ≡ e'.overlaps.one = some_same e.overlaps.one e'.overlaps.one (sym e.overlaps.is_one ∙ (ap (λ c. slice_get (conditions_of c) i) cases ∙ (ap (λ n. slice_get (conditions_of e'.cases) n) same.1 ∙ e'.overlaps.is_one))) in
      let other : e.overlaps.other ≡ e'.overlaps.other = some_same e.overlaps.other e'.overlaps.other (sym e.overlaps.is_other ∙ (ap (λ c. slice_get (conditions_of c) j) cases ∙ (ap (λ n. slice_get (conditions_of e'.cases) n) same.2 ∙ e'.overlaps.is_other))) in
      let ts : e.overlaps.one.1 ++ e.overlaps.other.1 ≡ e'.overlaps.one.1 ++ e'.overlaps.other.1 = ap (λ c. c.1 ++ e.overlaps.other.1) one ∙ ap (λ c. e'.overlaps.one.1 ++ c.1) other in
      let mine : (s : ℕ) → holds (map (λ x. x.0) vs) s ≡ holds (map test_slot (e.overlaps.one.1 ++ e.overlaps.other.1)) s = λ s. same_holds (map (λ x. x.0) vs) (map test_slot (e.overlaps.one.1 ++ e.overlaps.other.1)) s (e.overlaps.slots s) (e.overlaps.all_slots s) in
      let theirs : (s : ℕ) → holds (map (λ x. x.0) vs') s ≡ holds (map test_slot (e'.overlaps.one.1 ++ e'.overlaps.other.1)) s = λ s. same_holds (map (λ x. x.0) vs') (map test_slot (e'.overlaps.one.1 ++ e'.overlaps.other.1)) s (e'.overlaps.slots s) (e'.overlaps.all_slots s) in
      let keys = same_keys (map (λ x. x.0) vs) (map (λ x. x.0) vs') e.overlaps.ascending e'.overlaps.ascending (λ s. mine s ∙ (ap (λ l. holds (map test_slot l) s) ts ∙ sym (theirs s))) in
      same_values vs vs' keys e.overlaps.ascending (λ s q. forced vs vs' (e.overlaps.one.1 ++ e.overlaps.other.1) e.overlaps.holds (subst (λ l. AllHold vs' l) (sym ts) e'.overlaps.holds) s (sym (mine s) ∙ q))

  both_overlap : (f g : CheckFault) (k u k' u' : ℕ) → Evidence root f k u → Evidence root g k' u' → rank root f k u ≡ rank root g k' u' → IsOverlap f → IsOverlap g → values_of f ≡ values_of g
  both_overlap f g k u k' u' e e' r p q =
      let first = subst (λ x. Evidence root x k u) p.is e in
      let second = subst (λ x. Evidence root x k' u') q.is e' in
      let ranks : rank root (overlap p.path p.first p.second p.numbers) k u ≡ rank root (overlap q.path q.first q.second q.numbers) k' u' = ap (λ x. rank root x k u) (sym p.is) ∙ (r ∙ ap (λ x. rank root x k' u') q.is) in
      ap values_of p.is
      ∙ (overlap_values p.path q.path p.first p.second q.first q.second p.numbers q.numbers k u k' u' first second (ap (item_at 1) ranks, ap (item_at 3) ranks, ap (item_at 4) ranks)
      ∙ sym (ap values_of q.is))

  values_same : (f g : CheckFault) (k u k' u' : ℕ) → Evidence root f k u → Evidence root g k' u' → rank root f k u ≡ rank root g k' u' → values_of f ≡ values_of g
  values_same f g k u k' u' e e' r =
      let kind : number_of_fault f ≡ number_of_fault g = sym (head_is root f k u) ∙ (ap (item_at 0) r ∙ head_is root g k' u') in
      truth {F = values_of f ≡ values_of g} (nat_eq (number_of_fault f) 4)
      (λ h. let four = eqb-true (number_of_fault f) 4 h in both_overlap f g k u k' u' e e' r (overlap_of f four) (overlap_of g (sym kind ∙ four)))
      (λ h. no_values f (λ four. not_four (number_of_fault f) h four) ∙ sym (no_values g (λ four. not_four (number_of_fault f) h (kind ∙ four))))
    where
      not_four : (n : ℕ) → nat_eq n 4 ≡ false → n ≡ 4 → ⊥
      not_four n h e = grind (arith, nat_tests)

pub one_first_fault : OneFirstFault
one_first_fault root f g tree p q =
    let ranks = same_rank root (rank root f p.node p.use_here) (rank root g q.node q.use_here) (five root f p.node p.use_here ∙ sym (five root g q.node q.use_here)) (λ b. q.first f p.node p.use_here p.holds b) (λ b. p.first g q.node q.use_here q.holds b) in
    let values = values_same root f g p.node p.use_here q.node q.use_here p.holds q.holds ranks in
    some_same f g (sym (told root tree f p.node p.use_here p.holds) ∙ (ap (λ r. rebuilt root (values_of f) r) ranks ∙ (ap (λ v. rebuilt root v (rank root g q.node q.use_here)) values ∙ told root tree g q.node q.use_here q.holds)))
