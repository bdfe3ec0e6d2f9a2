-- Which nodes stand inside a node, by paths.
use Rattle.std.proofs.Common.{◌≡◌, ℕ, zero, suc, ◌<◌, ◌≤◌, nat_eq, Bool, true, false, true≢false, ◌&&◌, cond, List, [], ◌∷◌, ◌++◌, map, filter, append_assoc, append-nil, refl, sym, ap, subst, ◌∙◌, arith}
use Rattle.std.specs.List.{AllByRecursion}
use Rattle.std.proofs.lemmas.Bool.Decides.{nat_tests}
use Rattle.std.proofs.lemmas.List.Elements.{filter-append}
use Rattle.acn_grammar.specs.Grammar.{Grammar, Form, Fields, Alternatives, node, num, octets, bits, text, seq, list, choice, contained, no_fields, component, inserted, no_alternatives, alternative}
use Rattle.acn_grammar.specs.Walk.{Stand, Role, root_node, component_role, an_inserted, alternative_role, an_element, a_content, nodes, nodes_of, form_nodes, field_nodes, alternative_nodes, inside}
use Rattle.acn_grammar.specs.declared.node.ChoiceRule.{ChoiceRule}
use Rattle.acn_homes.specs.Homes.{Path}
use Rattle.acn_home_laws.specs.Laws.{paths, goes_on, stands_below}
use Rattle.acn_home_laws.proofs.Rising.{Front, From, all_follow, nodes_front, form_from, fields_from, alternatives_from}

-- the first path is a front of the second
abbrev starts : Path → Path → Bool
starts [] q = true
starts (a ∷ p) [] = false
starts (a ∷ p) (b ∷ q) = nat_eq a b && starts p q

is_itself : (a : ℕ) → nat_eq a a ≡ true
is_itself a = grind (arith, nat_tests)

differ : (a b : ℕ) → a < b → nat_eq a b ≡ false
differ a b h = grind (arith, nat_tests)

differ_back : (a b : ℕ) → a < b → nat_eq b a ≡ false
differ_back a b h = grind (arith, nat_tests)

no_longer : (p r q : Path) → starts p q ≡ false → starts (p ++ r) q ≡ false
no_longer [] r q h = absurd (true≢false h)
no_longer (a ∷ p) r [] h = refl
no_longer (a ∷ p) r (b ∷ q) h = by (nat_eq a b) h (no_longer p r q)
  where
    by : (t : Bool) → (t && starts p q) ≡ false → (starts p q ≡ false → starts (p ++ r) q ≡ false) → (t && starts (p ++ r) q) ≡ false
    by true k rest = rest k
    by false k rest = refl

not_itself : (p : Path) (m : ℕ) → starts (p ++ m ∷ []) p ≡ false
not_itself [] m = refl
not_itself (a ∷ p) m = ap (λ (t : Bool). t && starts (p ++ m ∷ []) p) (is_itself a) ∙ not_itself p m

other_step : (p : Path) (m k : ℕ) (r : Path) → nat_eq m k ≡ false → starts (p ++ m ∷ []) (p ++ k ∷ r) ≡ false
other_step [] m k r h = ap (λ (t : Bool). t && true) h
other_step (a ∷ p) m k r h = ap (λ (t : Bool). t && starts (p ++ m ∷ []) (p ++ k ∷ r)) (is_itself a) ∙ other_step p m k r h

not_on : (p q : Path) → starts p q ≡ false → goes_on p q ≡ false
not_on [] q h = absurd (true≢false h)
not_on (a ∷ p) [] h = refl
not_on (a ∷ p) (b ∷ q) h = by (nat_eq a b) h (not_on p q)
  where
    by : (t : Bool) → (t && starts p q) ≡ false → (starts p q ≡ false → goes_on p q ≡ false) → (t && goes_on p q) ≡ false
    by true k rest = rest k
    by false k rest = refl

on_itself : (p : Path) → goes_on p p ≡ false
on_itself [] = refl
on_itself (a ∷ p) = ap (λ (t : Bool). t && goes_on p p) (is_itself a) ∙ on_itself p

deeper_on : (p : Path) (j : ℕ) (r : Path) → goes_on p (p ++ j ∷ r) ≡ true
deeper_on [] j r = refl
deeper_on (a ∷ p) j r = ap (λ (t : Bool). t && goes_on p (p ++ j ∷ r)) (is_itself a) ∙ deeper_on p j r

-- ---- filters

none_kept : (test : Stand → Bool) (xs : List Stand) → AllByRecursion (λ x. test x ≡ false) xs → filter test xs ≡ []
none_kept test [] h = refl
none_kept test (x ∷ xs) h = ap (λ (t : Bool). cond t (x ∷ filter test xs) (filter test xs)) h.0 ∙ none_kept test xs h.1

all_kept : (test : Stand → Bool) (xs : List Stand) → AllByRecursion (λ x. test x ≡ true) xs → filter test xs ≡ xs
all_kept test [] h = refl
all_kept test (x ∷ xs) h = ap (λ (t : Bool). cond t (x ∷ filter test xs) (filter test xs)) h.0 ∙ ap (λ (zs : List Stand). x ∷ zs) (all_kept test xs h.1)

pub each : (P Q : Stand → Type 0) → ((x : Stand) → P x → Q x) → (xs : List Stand) → AllByRecursion P xs → AllByRecursion Q xs
each P Q f [] h = tt
each P Q f (x ∷ xs) h = (f x h.0, each P Q f xs h.1)

both : (P : Stand → Type 0) (a b : List Stand) → AllByRecursion P a → AllByRecursion P b → AllByRecursion P (a ++ b)
both P [] b h k = k
both P (x ∷ a) b h k = (h.0, both P a b h.1 k)

of_paths : (P : Path → Type 0) (xs : List Stand) → AllByRecursion P (paths xs) → AllByRecursion (λ x. P x.path) xs
of_paths P [] h = tt
of_paths P (x ∷ xs) h = (h.0, of_paths P xs h.1)

-- ---- nodes outside

abbrev Outside : Path → List Stand → Type 0
Outside path xs = AllByRecursion (λ x. starts path x.path ≡ false) xs

-- none of these stands at or below a step of at least k from the path
abbrev Before : Path → ℕ → List Stand → Type 0
Before path k xs = AllByRecursion (λ x. (m : ℕ) → k ≤ m → starts (path ++ m ∷ []) x.path ≡ false) xs

outside_before : (path : Path) (xs : List Stand) → Outside path xs → Before path 0 xs
outside_before path xs h = each (λ x. starts path x.path ≡ false) (λ x. (m : ℕ) → 0 ≤ m → starts (path ++ m ∷ []) x.path ≡ false) (λ x e m l. no_longer path (m ∷ []) x.path e) xs h

before_outside : (path : Path) (k m : ℕ) (xs : List Stand) → k ≤ m → Before path k xs → Outside (path ++ m ∷ []) xs
before_outside path k m xs l h = each (λ x. (n : ℕ) → k ≤ n → starts (path ++ n ∷ []) x.path ≡ false) (λ x. starts (path ++ m ∷ []) x.path ≡ false) (λ x e. e m l) xs h

before_more : (path : Path) (k : ℕ) (xs : List Stand) → Before path k xs → Before path (suc k) xs
before_more path k xs h = each (λ x. (n : ℕ) → k ≤ n → starts (path ++ n ∷ []) x.path ≡ false) (λ x. (n : ℕ) → suc k ≤ n → starts (path ++ n ∷ []) x.path ≡ false) (λ x e n l. e n (omega (arith, l))) xs h

front_before : (path : Path) (k : ℕ) (xs : List Stand) → AllByRecursion (Front (path ++ k ∷ [])) (paths xs) → Before path (suc k) xs
front_before path k xs h = of_paths (λ p. (n : ℕ) → suc k ≤ n → starts (path ++ n ∷ []) p ≡ false) xs (all_follow (Front (path ++ k ∷ [])) (λ p. (n : ℕ) → suc k ≤ n → starts (path ++ n ∷ []) p ≡ false) here (paths xs) h)
  where
    here : (p : Path) → Front (path ++ k ∷ []) p → (n : ℕ) → suc k ≤ n → starts (path ++ n ∷ []) p ≡ false
    here p f n l = ap (starts (path ++ n ∷ [])) (f.1 ∙ append_assoc path (k ∷ []) f.0) ∙ other_step path n k f.0 (differ_back k n (omega (arith, l)))

from_outside : (path : Path) (k : ℕ) (xs : List Stand) → AllByRecursion (From path (suc k)) (paths xs) → Outside (path ++ k ∷ []) xs
from_outside path k xs h = of_paths (λ p. starts (path ++ k ∷ []) p ≡ false) xs (all_follow (From path (suc k)) (λ p. starts (path ++ k ∷ []) p ≡ false) here (paths xs) h)
  where
    here : (p : Path) → From path (suc k) p → starts (path ++ k ∷ []) p ≡ false
    here p f = (let l = f.2 in ap (starts (path ++ k ∷ [])) f.3 ∙ other_step path k f.0 f.1 (differ k f.0 (omega (arith, l))))

-- ---- the nodes inside one

abbrev Good : List Stand → Stand → Type 0
Good all at = inside at ≡ filter (stands_below at) all

outside_lost : (at : Stand) (xs : List Stand) → Outside at.path xs → filter (stands_below at) xs ≡ []
outside_lost at xs h = none_kept (stands_below at) xs (each (λ x. starts at.path x.path ≡ false) (λ x. stands_below at x ≡ false) (λ x e. not_on at.path x.path e) xs h)

below_kept : (at : Stand) (xs : List Stand) → AllByRecursion (From at.path 0) (paths xs) → filter (stands_below at) xs ≡ xs
below_kept at xs h =
    all_kept (stands_below at) xs
    (of_paths (λ p. goes_on at.path p ≡ true) xs (all_follow (From at.path 0) (λ p. goes_on at.path p ≡ true) (λ p f. ap (goes_on at.path) f.3 ∙ deeper_on at.path f.0 f.1) (paths xs) h))

-- of nodes in front, the node, those below it and nodes behind, those below it are kept
split_kept : (at : Stand) (front mine back : List Stand) → Outside at.path front → AllByRecursion (From at.path 0) (paths mine) → Outside at.path back → filter (stands_below at) (front ++ ((at ∷ mine) ++ back)) ≡ mine
split_kept at front mine back f m b =
    filter-append (stands_below at) front ((at ∷ mine) ++ back)
    ∙ (ap (λ (zs : List Stand). zs ++ filter (stands_below at) ((at ∷ mine) ++ back)) (outside_lost at front f)
    ∙ (ap (λ (t : Bool). cond t (at ∷ filter (stands_below at) (mine ++ back)) (filter (stands_below at) (mine ++ back))) (on_itself at.path)
    ∙ (filter-append (stands_below at) mine back
    ∙ (ap (λ (zs : List Stand). zs ++ filter (stands_below at) back) (below_kept at mine m)
    ∙ (ap (λ (zs : List Stand). mine ++ zs) (outside_lost at back b) ∙ append-nil mine)))))

mutual
  nodes_good : (all : List Stand) (role : Role) (path around : List ℕ) (g : Grammar) (front back : List Stand) → all ≡ front ++ (nodes role path around g ++ back) → Outside path front → Outside path back → AllByRecursion (Good all) (nodes role path around g)
  nodes_good all role path around (node align form) front back e f b =
      let at : Stand = record { path = path; around = around; role = role; align = align; form = form } in
      let mine = form_nodes path around form in (
        sym (ap (filter (stands_below at)) e ∙ split_kept at front mine back f (form_from path around form) b),
        form_good all path around form (front ++ at ∷ []) back (e ∙ sym (append_assoc front (at ∷ []) (mine ++ back)))
            (both (λ x. (m : ℕ) → 0 ≤ m → starts (path ++ m ∷ []) x.path ≡ false) front (at ∷ []) (outside_before path front f) ((λ m l. not_itself path m), tt)) (outside_before path back b),
      )

  form_good : (all : List Stand) (path around : List ℕ) (form : Form) (front back : List Stand) → all ≡ front ++ (form_nodes path around form ++ back) → Before path 0 front → Before path 0 back → AllByRecursion (Good all) (form_nodes path around form)
  form_good all path around (num leaf) front back e f b = tt
  form_good all path around (octets sizing) front back e f b = tt
  form_good all path around (bits sizing) front back e f b = tt
  form_good all path around (text leaf) front back e f b = tt
  form_good all path around (seq fields home) front back e f b = fields_good all path (home ++ around) 0 fields front back e f b
  form_good all path around (list sizing g) front back e f b = nodes_good all an_element (path ++ 0 ∷ []) around g front back e (before_outside path 0 0 front (omega arith) f) (before_outside path 0 0 back (omega arith) b)
  form_good all path around (choice alternatives rule) front back e f b = alternatives_good all rule path around 0 alternatives front back e f b
  form_good all path around (contained sizing g) front back e f b = nodes_good all a_content (path ++ 0 ∷ []) around g front back e (before_outside path 0 0 front (omega arith) f) (before_outside path 0 0 back (omega arith) b)

  fields_good : (all : List Stand) (path around : List ℕ) (k : ℕ) (fs : Fields) (front back : List Stand) → all ≡ front ++ (field_nodes path around k fs ++ back) → Before path k front → Before path 0 back → AllByRecursion (Good all) (field_nodes path around k fs)
  fields_good all path around k no_fields front back e f b = tt
  fields_good all path around k (component name g presence default own fs) front back e f b =
      let one = nodes (component_role name presence default own) (path ++ k ∷ []) around g in
      let rest = field_nodes path around (suc k) fs in
      both (Good all) one rest
      (nodes_good all (component_role name presence default own) (path ++ k ∷ []) around g front (rest ++ back) (e ∙ ap (λ (zs : List Stand). front ++ zs) (append_assoc one rest back))
      (before_outside path k k front (omega arith) f) (both (λ x. starts (path ++ k ∷ []) x.path ≡ false) rest back (from_outside path k rest (fields_from path around (suc k) fs)) (before_outside path 0 k back (omega arith) b)))
      (fields_good all path around (suc k) fs (front ++ one) back (e ∙ (ap (λ (zs : List Stand). front ++ zs) (append_assoc one rest back) ∙ sym (append_assoc front one (rest ++ back))))
      (both (λ x. (m : ℕ) → suc k ≤ m → starts (path ++ m ∷ []) x.path ≡ false) front one (before_more path k front f) (front_before path k one (nodes_front (component_role name presence default own) (path ++ k ∷ []) around g))) b)
  fields_good all path around k (inserted name g slot fs) front back e f b =
      let one = nodes (an_inserted name slot) (path ++ k ∷ []) around g in
      let rest = field_nodes path around (suc k) fs in
      both (Good all) one rest
      (nodes_good all (an_inserted name slot) (path ++ k ∷ []) around g front (rest ++ back) (e ∙ ap (λ (zs : List Stand). front ++ zs) (append_assoc one rest back))
      (before_outside path k k front (omega arith) f) (both (λ x. starts (path ++ k ∷ []) x.path ≡ false) rest back (from_outside path k rest (fields_from path around (suc k) fs)) (before_outside path 0 k back (omega arith) b)))
      (fields_good all path around (suc k) fs (front ++ one) back (e ∙ (ap (λ (zs : List Stand). front ++ zs) (append_assoc one rest back) ∙ sym (append_assoc front one (rest ++ back))))
      (both (λ x. (m : ℕ) → suc k ≤ m → starts (path ++ m ∷ []) x.path ≡ false) front one (before_more path k front f) (front_before path k one (nodes_front (an_inserted name slot) (path ++ k ∷ []) around g))) b)

  alternatives_good : (all : List Stand) (rule : ChoiceRule) (path around : List ℕ) (k : ℕ) (more : Alternatives) (front back : List Stand) → all ≡ front ++ (alternative_nodes rule path around k more ++ back) → Before path k front → Before path 0 back → AllByRecursion (Good all) (alternative_nodes rule path around k more)
  alternatives_good all rule path around k no_alternatives front back e f b = tt
  alternatives_good all rule path around k (alternative name g tests more) front back e f b =
      let one = nodes (alternative_role name tests rule) (path ++ k ∷ []) around g in
      let rest = alternative_nodes rule path around (suc k) more in
      both (Good all) one rest
      (nodes_good all (alternative_role name tests rule) (path ++ k ∷ []) around g front (rest ++ back) (e ∙ ap (λ (zs : List Stand). front ++ zs) (append_assoc one rest back))
      (before_outside path k k front (omega arith) f) (both (λ x. starts (path ++ k ∷ []) x.path ≡ false) rest back (from_outside path k rest (alternatives_from rule path around (suc k) more)) (before_outside path 0 k back (omega arith) b)))
      (alternatives_good all rule path around (suc k) more (front ++ one) back (e ∙ (ap (λ (zs : List Stand). front ++ zs) (append_assoc one rest back) ∙ sym (append_assoc front one (rest ++ back))))
      (both (λ x. (m : ℕ) → suc k ≤ m → starts (path ++ m ∷ []) x.path ≡ false) front one (before_more path k front f) (front_before path k one (nodes_front (alternative_role name tests rule) (path ++ k ∷ []) around g))) b)

pub inside_goes_on : (root : Grammar) → AllByRecursion (λ at. inside at ≡ filter (stands_below at) (nodes_of root)) (nodes_of root)
inside_goes_on root = nodes_good (nodes_of root) root_node [] [] root [] [] (sym (append-nil (nodes_of root))) tt tt
