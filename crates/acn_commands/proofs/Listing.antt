-- Application processes that differ, each with the tree of its type.
use Rattle.std.proofs.Common.{◌≡◌, ℕ, zero, suc, ◌+◌, Bool, true, false, not, List, [], ◌∷◌, ◌++◌, length, map, take, Option, Some, is_some, if◌then◌else◌, refl, sym, ap, ◌∙◌, subst, arith, nat_eq, length-append}
use Rattle.std.proofs.lemmas.Bool.{or_parts, and_parts, ne_eqb}
use Rattle.std.proofs.lemmas.List.{length-map}
use Rattle.std.specs.Prelude.{slice_get}
use Rattle.acn_grammar.proofs.SlotLists.{same_eq}
use Rattle.acn_route.specs.Listed.{Listed, tree_for, has_route}
use Rattle.acn_tree.specs.declared.tree.Tree.{Tree}
use Rattle.acn_words.specs.Names.{TypeName}
use Rattle.acn_words.specs.Routes.{Route, route_of, apid_of, has_apid, apids_differ, are_routes}
use Rattle.acn_commands.specs.Routed.{listed_by}

-- none of the routes is of a process that none of the words names
other : (words : List (List ℕ)) (k a : ℕ) (r : Route) → slice_get (map route_of words) k ≡ Some r → has_apid a words ≡ false → r.apid ≡ a → ⊥
other [] k a r e none same = cc
other (word ∷ words) zero a r e none same =
    let here : route_of word ≡ r = cc e in
    let apid : apid_of word ≡ a = ap (λ (x : Route). x.apid) here ∙ same in
    let differs = (or_parts (nat_eq (apid_of word) a) (has_apid a words) none).0 in
    let equal = ap (λ n. nat_eq n a) apid ∙ same_eq a in
    cc (differs, equal)
other (word ∷ words) (suc k) a r e none same = other words k a r e (or_parts (nat_eq (apid_of word) a) (has_apid a words) none).1 same

passed : (a b : ℕ) (tree : Tree) (rest : Option Tree) → (a ≡ b → ⊥) → (if nat_eq a b then Some tree else rest) ≡ rest
passed a b tree rest h = by (nat_eq a b) (ne_eqb a b h)
  where
    by : (c : Bool) → c ≡ false → (if c then Some tree else rest) ≡ rest
    by true e = cc
    by false e = refl

-- the process of the next route has none yet
pub none_yet : (words : List (List ℕ)) (trees : List Tree) (r : Route) → apids_differ words ≡ true → slice_get (map route_of words) (length trees) ≡ Some r → has_route (listed_by (map route_of words) trees) r.apid ≡ false
none_yet [] trees r d e = cc
none_yet (word ∷ words) [] r d e = refl
none_yet (word ∷ words) (tree ∷ trees) r d e =
    let parts = and_parts (not (has_apid (apid_of word) words)) (apids_differ words) d in
    ap is_some (passed r.apid (apid_of word) tree (tree_for (listed_by (map route_of words) trees) r.apid) (λ same. other words (length trees) (apid_of word) r e (turned (has_apid (apid_of word) words) parts.0) same))
    ∙ none_yet words trees r parts.1 e
  where
    turned : (b : Bool) → not b ≡ true → b ≡ false
    turned true h = cc
    turned false h = refl

none_listed : (routes : List Route) → listed_by routes [] ≡ []
none_listed [] = refl
none_listed (r ∷ routes) = refl

-- one route more
pub one_more : (routes : List Route) (trees : List Tree) (tree : Tree) (r : Route) → slice_get routes (length trees) ≡ Some r → listed_by routes (trees ++ tree ∷ []) ≡ listed_by routes trees ++ record { apid = r.apid; tree = tree } ∷ []
one_more [] trees tree r e = cc
one_more (s ∷ routes) [] tree r e =
    let here : s ≡ r = cc e in
    ap (λ (more : List Listed). record { apid = s.apid; tree = tree } ∷ more) (none_listed routes) ∙ ap (λ (x : Route). record { apid = x.apid; tree = tree } ∷ []) here
one_more (s ∷ routes) (t ∷ trees) tree r e = ap (λ (more : List Listed). record { apid = s.apid; tree = t } ∷ more) (one_more routes trees tree r e)

pub they_differ : (words : List (List ℕ)) → are_routes words ≡ true → apids_differ words ≡ true
they_differ [] e = refl
they_differ (word ∷ words) e = (and_parts _ (apids_differ (word ∷ words)) e).1

-- The types that routes name.

next_type : (routes : List Route) (i : ℕ) (r : Route) → slice_get routes i ≡ Some r → map (λ x. x.of) (take i routes) ++ r.of ∷ [] ≡ map (λ x. x.of) (take (suc i) routes)
next_type [] i r e = cc
next_type (s ∷ routes) zero r e = let here : s ≡ r = cc e in ap (λ (x : Route). x.of ∷ []) (sym here)
next_type (s ∷ routes) (suc i) r e = ap (λ more. s.of ∷ more) (next_type routes i r e)

-- the types before one, with it
pub type_taken : (routes : List Route) (i : ℕ) (r : Route) → slice_get routes i ≡ Some r → map (λ x. x.of) (take i routes) ++ r.of ∷ [] ≡ map (λ x. x.of) (take (i + 1) routes)
type_taken routes i r e =
    let one : suc i ≡ i + 1 = omega arith in
    next_type routes i r e ∙ ap (λ n. map (λ x. x.of) (take n routes)) one

names_more : {A : Type 0} (f : A → TypeName) (xs : List A) (x : A) → map f (xs ++ x ∷ []) ≡ map f xs ++ f x ∷ []
names_more f [] x = refl
names_more f (y ∷ xs) x = ap (λ more. f y ∷ more) (names_more f xs x)

pub types_more : {A : Type 0} (f : A → TypeName) (routes : List Route) (i : ℕ) (names new : List A) (x : A) (r : Route) → new ≡ names ++ x ∷ [] → map f names ≡ map (λ y. y.of) (take i routes) → f x ≡ r.of → slice_get routes i ≡ Some r
    → map f new ≡ map (λ y. y.of) (take (i + 1) routes)
types_more f routes i names new x r added before same there =
    ap (map f) added ∙ (names_more f names x ∙ (ap (λ ns. ns ++ f x ∷ []) before ∙ (ap (λ (n : TypeName). map (λ (y : Route). y.of) (take i routes) ++ n ∷ []) same ∙ type_taken routes i r there)))

-- The routes of the words, one after the other, each with the tree of what was yielded.
module _ {A : Type 0} (f : A → Tree) (words : List (List ℕ)) (ys : List A) (routes : List Listed) (i : ℕ) (r : Route) (count : i ≡ length ys) (before : routes ≡ listed_by (map route_of words) (map f ys)) (there : slice_get (map route_of words) i ≡ Some r) where
  here : slice_get (map route_of words) (length (map f ys)) ≡ Some r
  here = subst (λ n. slice_get (map route_of words) n ≡ Some r) (count ∙ sym (length-map ys f)) there

  pub free_next : are_routes words ≡ true → has_route routes r.apid ≡ false
  free_next are = ap (λ ls. has_route ls r.apid) before ∙ none_yet words (map f ys) r (they_differ words are) here

  trees_more : (xs : List A) (x : A) → map f (xs ++ x ∷ []) ≡ map f xs ++ f x ∷ []
  trees_more [] x = refl
  trees_more (y ∷ xs) x = ap (λ more. f y ∷ more) (trees_more xs x)

  counted : (xs : List A) (x : A) → length (xs ++ x ∷ []) ≡ length xs + 1
  counted xs x = length-append xs (x ∷ [])

  pub routes_more : (new : List Listed) (x : A) → new ≡ routes ++ record { apid = r.apid; tree = f x } ∷ [] → (i + 1 ≡ length (ys ++ x ∷ [])) × (new ≡ listed_by (map route_of words) (map f (ys ++ x ∷ [])))
  routes_more new x added = (
    omega (arith, count, counted ys x),
    added ∙ (ap (λ (ls : List Listed). ls ++ record { apid = r.apid; tree = f x } ∷ []) before ∙ (sym (one_more (map route_of words) (map f ys) (f x) r here) ∙ ap (listed_by (map route_of words)) (sym (trees_more ys x)))),
  )
