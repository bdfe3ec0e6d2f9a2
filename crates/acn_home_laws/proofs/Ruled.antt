-- The rules on slots.
use Rattle.std.proofs.Common.{◌≡◌, inl, inr, ℕ, ◌+◌, ◌<◌, nat_eq, nat_lt, zero, suc, Bool, true, false, true≢false, ◌||◌, List, [], ◌∷◌, ◌++◌, map, filter, filter_map, length, get_or, count_by, Option, Some, None, is_some, refl, sym, ap, subst, ◌∙◌, arith}
use Rattle.std.proofs.lemmas.Bool.Decides.{nat_tests}
use Rattle.std.specs.List.{AllByRecursion, list_any, list_all, range_with_len, cons_option}
use Rattle.acn_grammar.specs.Grammar.{Grammar, Form, Fields, num, octets, bits, text, seq, list, choice, contained}
use Rattle.acn_grammar.specs.Tree.{slots_of, names_open, own_used, slot_used, is_about, is_seq, is_home, home_fine, holds, near, all_true, same_numbers}
use Rattle.acn_grammar.specs.Walk.{Stand, Role, root_node, a_component, an_inserted, an_alternative, an_element, a_content, nodes_of, form_nodes, field_nodes, inside, slot_here, slot_of, uses}
use Rattle.acn_homes.specs.declared.uses.Use.{Use}
use Rattle.acn_homes.specs.Homes as homes
use Rattle.acn_homes.specs.Homes.{Path, same, is_among, named, home, Slot, slots, number}
use Rattle.acn_home_laws.specs.HomeLaws.{HomeLaws}
use Rattle.acn_home_laws.specs.Laws.{paths, goes_on}
use Rattle.acn_home_laws.specs.Numbered.{is_component, Lists, IsNumbered}
use Rattle.acn_home_laws.specs.Rules.{slot_rules, slots_fine}
use Rattle.acn_home_laws.proofs.Below.{holds_front, round_fields}
use Rattle.acn_home_laws.proofs.Homed.{homes_tell, kept_inside, was_inside, field_about, user_about}
use Rattle.acn_home_laws.proofs.Members.{In, each_has, all_have, some_passes, passes, all_pass, in_range, was_given, was_kept, two_counted}
use Rattle.acn_home_laws.proofs.Near.{IsOpen, near_fields}
use Rattle.acn_home_laws.proofs.Onward.{same_is, is_same, is_equal, itself_equal, true_both, begins_on}
use Rattle.acn_home_laws.proofs.Rising.{nodes_rise}
use Rattle.acn_home_laws.proofs.Ways.{nothing, slot_of_node, field_node, noted_use, user_node, home_over_field, home_over_user, home_node, home_way, passed_here}

holds_one : (xs : List ℕ) (s : ℕ) → In s xs → holds xs s ≡ true
holds_one [] s m = absurd m
holds_one (t ∷ xs) s (inl e) = ap (λ (b : Bool). b || holds xs s) (ap (λ (k : ℕ). nat_eq t k) e ∙ itself_equal t)
holds_one (t ∷ xs) s (inr m) = by (nat_eq t s) (holds_one xs s m)
  where
    by : (b : Bool) → holds xs s ≡ true → (b || holds xs s) ≡ true
    by true h = refl
    by false h = h

one_of : (xs : List ℕ) (s : ℕ) → list_any (nat_eq s) xs ≡ true → In s xs
one_of xs s h = (let r = some_passes (nat_eq s) xs h in subst (λ (k : ℕ). In k xs) (sym (is_equal s r.0 r.2)) r.1)

any_of : (xs : List ℕ) (s : ℕ) → In s xs → list_any (nat_eq s) xs ≡ true
any_of xs s m = passes (nat_eq s) xs s m (itself_equal s)

same_list : (xs : List ℕ) → same_numbers xs xs ≡ true
same_list [] = refl
same_list (x ∷ xs) = true_both (nat_eq x x) (same_numbers xs xs) (itself_equal x) (same_list xs)

same_lists : (xs ys : List ℕ) → xs ≡ ys → same_numbers xs ys ≡ true
same_lists xs ys e = ap (same_numbers xs) (sym e) ∙ same_list xs

-- what is listed in place of what is mapped
given_alike : (f : Path → Option ℕ) (xs : List Stand) → AllByRecursion (λ x. slot_here x.role ≡ f x.path) xs → slots_of xs ≡ filter_map f (paths xs)
given_alike f [] h = refl
given_alike f (x ∷ xs) h = ap (λ (o : Option ℕ). cons_option o (slots_of xs)) h.0 ∙ ap (cons_option (f x.path)) (given_alike f xs h.1)

-- a list of parts is in one part or the other
named_in : (fields : List Path) (noted : List Use) (p : Path) → is_among p (named fields noted) ≡ true → is_among p fields ≡ false → list_any (λ (u : Use). same p u.field) noted ≡ true
named_in [] noted p h k = in_uses noted h
  where
    in_uses : (us : List Use) → is_among p (map (λ (u : Use). u.field) us) ≡ true → list_any (λ (u : Use). same p u.field) us ≡ true
    in_uses [] h = h
    in_uses (u ∷ us) h = by (same p u.field) h (in_uses us)
      where
        by : (b : Bool) → (b || is_among p (map (λ (u : Use). u.field) us)) ≡ true → (is_among p (map (λ (u : Use). u.field) us) ≡ true → list_any (λ (u : Use). same p u.field) us ≡ true) → (b || list_any (λ (u : Use). same p u.field) us) ≡ true
        by true g rest = refl
        by false g rest = rest g
named_in (q ∷ fields) noted p h k = by (same p q) h k (named_in fields noted p)
  where
    by : (b : Bool) → (b || is_among p (named fields noted)) ≡ true → (b || is_among p fields) ≡ false → (is_among p (named fields noted) ≡ true → is_among p fields ≡ false → list_any (λ (u : Use). same p u.field) noted ≡ true) → list_any (λ (u : Use). same p u.field) noted ≡ true
    by true g f rest = absurd (true≢false f)
    by false g f rest = rest g f

module _ (law : HomeLaws) (root : Grammar) (fields : List Path) (noted : List Use) (n : IsNumbered root fields noted) where
  abbrev all : List Stand
  all = nodes_of root

  abbrev ss : List Slot
  ss = slots fields noted

  -- ---- the slots are counted

  numbers_of_nodes : filter_map (number ss) (paths all) ≡ range_with_len 0 (length ss)
  numbers_of_nodes = law.numbers_follow fields noted (paths all) (nodes_rise root_node [] [] root) n.fields_stand

  pub counted : slots_of all ≡ range_with_len 0 (length ss)
  counted = given_alike (number ss) all n.numbered ∙ numbers_of_nodes

  long_range : (a m : ℕ) → length (range_with_len a m) ≡ m
  long_range a zero = refl
  long_range a (suc m) = ap (λ (k : ℕ). suc k) (long_range (a + 1) m)

  numbering_fine : same_numbers (slots_of all) (range_with_len 0 (length (slots_of all))) ≡ true
  numbering_fine = same_lists (slots_of all) (range_with_len 0 (length (slots_of all))) (counted ∙ ap (range_with_len 0) (sym (ap (λ (z : List ℕ). length z) counted ∙ long_range 0 (length ss))))

  -- each number below the count is that of a field
  field_of : (s : ℕ) → s < length ss → (p : Path) × (number ss p ≡ Some s)
  field_of s l =
      let r = was_given (number ss) (paths all) s (subst (In s) (sym numbers_of_nodes) (in_range 0 (length ss) s (omega arith) (omega (arith, l)))) in
      (r.0, r.2)

  -- ---- uses are open

  -- the home of a slot lists it
  listed_there : (p : Path) (s : ℕ) → number ss p ≡ Some s → list_any (nat_eq s) (homes.at_home ss (home noted p)) ≡ true
  listed_there p s h =
      let t = law.tell_slots fields noted p s nothing h in
      law.at_home_once ss s nothing t.0 (home noted p) ∙ is_same (home noted p) (get_or ss s nothing).home (ap (λ (z : Slot). z.home) (sym t.1))

  open_below : (y : Stand) (s : ℕ) → is_seq y.form ≡ true → Lists (homes.at_home ss y.path) y.form → list_any (nat_eq s) (homes.at_home ss y.path) ≡ true → (x : Stand) → In x (inside y) → holds x.around s ≡ true
  open_below y s q l g x m = by y.form q l m
    where
      by : (form : Form) → is_seq form ≡ true → Lists (homes.at_home ss y.path) form → In x (form_nodes y.path y.around form) → holds x.around s ≡ true
      by (num leaf) q l m = absurd (true≢false (sym q))
      by (octets sizing) q l m = absurd (true≢false (sym q))
      by (bits sizing) q l m = absurd (true≢false (sym q))
      by (text leaf) q l m = absurd (true≢false (sym q))
      by (seq fs here) q l m = round_fields s y.path (here ++ y.around) 0 fs (holds_front here y.around s (holds_one here s (one_of here s (ap (list_any (nat_eq s)) l ∙ g)))) x m
      by (list sizing e) q l m = absurd (true≢false (sym q))
      by (choice more rule) q l m = absurd (true≢false (sym q))
      by (contained sizing e) q l m = absurd (true≢false (sym q))

  use_open : (x : Stand) → In x all → (s : ℕ) → In s (map slot_of (uses x)) → holds x.around s ≡ true
  use_open x m s k =
      let u = noted_use law root fields noted n s x m (any_of (map slot_of (uses x)) s k) in
      let p = u.0.field in
      let y = home_node law root fields noted n p s u.3 in
      let g = home_over_user law root fields noted n p u.0 u.1 refl in
      let i = kept_inside root y.0 x y.1 m (ap (λ (q : Path). goes_on q x.path) (sym y.2) ∙ (ap (goes_on (home noted p)) u.2 ∙ g)) in
      open_below y.0 s y.3 (each_has (λ at. Lists (homes.at_home ss at.path) at.form) all n.homes y.0 y.1)
      (ap (λ (q : Path). list_any (nat_eq s) (homes.at_home ss q)) (sym y.2) ∙ listed_there p s u.3) x i

  names_fine : (x : Stand) → In x all → names_open x ≡ true
  names_fine x m = all_pass (holds x.around) (map slot_of (uses x)) (use_open x m)

  pub uses_open : AllByRecursion (λ at. names_open at ≡ true) all
  uses_open = all_have (λ at. names_open at ≡ true) all names_fine

  -- ---- homes are fine

  tells_home : (y : Stand) → In y all → (p : Path) (s : ℕ) → number ss p ≡ Some s → is_home all s y ≡ same y.path (home noted p)
  tells_home y m p s h = each_has (λ at. is_home all s at ≡ same at.path (home noted p)) all (homes_tell law root fields noted n p s h) y m

  test_home : (y : Stand) → In y all → (k : ℕ) (d : Slot) → k < length ss → is_home all k y ≡ same y.path (get_or ss k d).home
  test_home y m k d l =
      let f = field_of k l in
      tells_home y m f.0 k f.1 ∙ ap (λ (z : Slot). same y.path z.home) (sym (law.tell_slots fields noted f.0 k d f.1).1)

  home_list : (y : Stand) → In y all → homes.at_home ss y.path ≡ filter (λ s. is_home all s y) (slots_of all)
  home_list y m = law.list_slots ss y.path (λ s. is_home all s y) (test_home y m) ∙ ap (filter (λ s. is_home all s y)) (sym counted)

  in_range_below : (a m k : ℕ) → In k (range_with_len a m) → k < a + m
  in_range_below a zero k h = absurd h
  in_range_below a (suc m) k (inl e) = omega (arith, e)
  in_range_below a (suc m) k (inr h) = (let r = in_range_below (a + 1) m k h in omega (arith, r))

  -- a slot at home in a SEQUENCE, and the way to its field
  near_here : (y : Stand) → In y all → (fs : Fields) (here : List ℕ) → inside y ≡ field_nodes y.path (here ++ y.around) 0 fs → (s : ℕ) → In s (homes.at_home ss y.path) → holds (near fs) s ≡ true
  near_here y m fs here e s k = near_fields y.path (here ++ y.around) 0 fs x.0 s (subst (In x.0) e inside_y) x.3 opens
    where
      kept : In s (slots_of all) × (is_home all s y ≡ true)
      kept = was_kept (λ s. is_home all s y) (slots_of all) s (subst (In s) (home_list y m) k)

      f : (p : Path) × (number ss p ≡ Some s)
      f = field_of s (let l = in_range_below 0 (length ss) s (subst (In s) counted kept.0) in omega (arith, l))

      x : (x : Stand) × In x all × (f.0 ≡ x.path) × (slot_here x.role ≡ Some s)
      x = field_node law root fields noted n f.0 s f.1

      here_is : y.path ≡ home noted f.0
      here_is = same_is y.path (home noted f.0) (sym (tells_home y m f.0 s f.1) ∙ kept.1)

      inside_y : In x.0 (inside y)
      inside_y = kept_inside root y x.0 m x.1 (ap (goes_on y.path) (sym x.2) ∙ (ap (λ (q : Path). goes_on q f.0) here_is ∙ home_over_field law root fields noted n f.0 s f.1))

      opens : (z : Stand) → In z (field_nodes y.path (here ++ y.around) 0 fs) → goes_on z.path x.0.path ≡ true → IsOpen z
      opens z i g =
          let w = was_inside root y z m (subst (In z) (sym e) i) in
          let h = ap (λ (q : Path). goes_on q z.path) (sym here_is) ∙ w.1 in
          let p = passed_here law root fields noted n (home noted f.0) z w.0 (home_way law root fields noted n f.0 s f.1 z.path (begins_on (home noted f.0) z.path h) (ap (goes_on z.path) x.2 ∙ g)) in
          (p.0, p.1 h)

  home_here : (y : Stand) → In y all → (form : Form) → inside y ≡ form_nodes y.path y.around form → Lists (homes.at_home ss y.path) form → home_fine all y form ≡ true
  home_here y m (num leaf) e l = refl
  home_here y m (octets sizing) e l = refl
  home_here y m (bits sizing) e l = refl
  home_here y m (text leaf) e l = refl
  home_here y m (seq fs here) e l =
      true_both (same_numbers here (filter (λ s. is_home all s y) (slots_of all))) (list_all (holds (near fs)) here)
      (same_lists here (filter (λ s. is_home all s y) (slots_of all)) (l ∙ home_list y m))
      (all_pass (holds (near fs)) here (λ s k. near_here y m fs here e s (subst (In s) l k)))
  home_here y m (list sizing g) e l = refl
  home_here y m (choice more rule) e l = refl
  home_here y m (contained sizing g) e l = refl

  home_rule : (y : Stand) → In y all → home_fine all y y.form ≡ true
  home_rule y m = home_here y m y.form refl (each_has (λ at. Lists (homes.at_home ss at.path) at.form) all n.homes y m)

  pub homes_fine : AllByRecursion (λ at. home_fine all at at.form ≡ true) all
  homes_fine = all_have (λ at. home_fine all at at.form ≡ true) all home_rule

  -- ---- slots of components are used

  counted_twice : (x : Stand) → In x all → is_component x.role ≡ true → (s : ℕ) → slot_here x.role ≡ Some s → 1 < count_by (is_about s) all
  counted_twice x m c s h =
      let k = sym (slot_of_node law root fields noted n x m) ∙ h in
      let a = sym (law.are_numbered fields noted x.path) ∙ ap is_some k in
      let u = some_passes (λ (u : Use). same x.path u.field) noted (named_in fields noted x.path a (each_has (λ at. is_component at.role ≡ true → is_among at.path fields ≡ false) all n.listed x m c)) in
      let e = same_is x.path u.0.field u.2 in
      let y = user_node law root fields noted n s u.0 u.1 (ap (number ss) (sym e) ∙ k) in
      two_counted (is_about s) all x y.0 m y.1
      (λ d. true≢false (sym (is_same u.0.user u.0.field (y.2 ∙ (ap (λ (z : Stand). z.path) (sym d) ∙ e))) ∙ each_has (λ (u : Use). same u.user u.field ≡ false) noted n.not_own u.0 u.1))
      (field_about law root fields noted n x.path s k x h) (user_about law root fields noted n x.path s k y.0 y.3)

  below_test : (a b : ℕ) → a < b → nat_lt a b ≡ true
  below_test a b h = grind (arith, nat_tests)

  used_here : (x : Stand) → In x all → (o : Option ℕ) → is_component x.role ≡ true → slot_here x.role ≡ o → slot_used all o ≡ true
  used_here x m None c h = refl
  used_here x m (Some s) c h = below_test 1 (count_by (is_about s) all) (counted_twice x m c s h)

  used_by : (x : Stand) → In x all → (role : Role) → x.role ≡ role → own_used all role ≡ true
  used_by x m root_node e = refl
  used_by x m (a_component one) e = used_here x m one.slot (ap is_component e) (ap slot_here e)
  used_by x m (an_inserted name slot) e = refl
  used_by x m (an_alternative one) e = refl
  used_by x m an_element e = refl
  used_by x m a_content e = refl

  used_rule : (x : Stand) → In x all → own_used all x.role ≡ true
  used_rule x m = used_by x m x.role refl

  pub slots_used : AllByRecursion (λ at. own_used all at.role ≡ true) all
  slots_used = all_have (λ at. own_used all at.role ≡ true) all used_rule

  -- ---- all of them

  three : (a b c : Bool) → a ≡ true → b ≡ true → c ≡ true → all_true (a ∷ b ∷ c ∷ []) ≡ true
  three true true true h k l = refl
  three true true false h k l = absurd (true≢false (sym l))
  three true false c h k l = absurd (true≢false (sym k))
  three false b c h k l = absurd (true≢false (sym h))

  pub rules_hold : slots_fine all ≡ true
  rules_hold =
      true_both (same_numbers (slots_of all) (range_with_len 0 (length (slots_of all)))) (list_all (λ at. all_true (slot_rules all at)) all) numbering_fine
      (all_pass (λ at. all_true (slot_rules all at)) all (λ x m. three (own_used all x.role) (names_open x) (home_fine all x x.form) (used_rule x m) (names_fine x m) (home_rule x m)))
