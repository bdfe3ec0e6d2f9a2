-- The SEQUENCE that is the home of a slot, by its path.
use Rattle.std.proofs.Common.{◌≡◌, ◌⊎◌, inl, inr, ℕ, Bool, true, false, true≢false, not, ◌&&◌, ◌||◌, List, filter, Some, refl, sym, ap, subst, ◌∙◌}
use Rattle.std.specs.List.{AllByRecursion, list_any, list_all}
use Rattle.acn_grammar.specs.Grammar.{Grammar}
use Rattle.acn_grammar.specs.Tree.{is_slot, is_about, is_seq, encloses, is_home}
use Rattle.acn_grammar.specs.Walk.{Stand, nodes_of, inside, slot_here}
use Rattle.acn_homes.specs.declared.uses.Use.{Use}
use Rattle.acn_homes.specs.Homes.{Path, same, above, users, home, slots, number}
use Rattle.acn_homes.specs.Laws.{Begins}
use Rattle.acn_home_laws.specs.HomeLaws.{HomeLaws}
use Rattle.acn_home_laws.specs.Laws.{goes_on, stands_below}
use Rattle.acn_home_laws.specs.Numbered.{uses_slot, IsNumbered}
use Rattle.acn_home_laws.proofs.Enclosing.{encloses_by_paths}
use Rattle.acn_home_laws.proofs.Inside.{inside_goes_on}
use Rattle.acn_home_laws.proofs.Members.{In, each_has, all_have, passes, none_passes, all_pass, each_passes, was_mapped, is_kept, was_kept}
use Rattle.acn_home_laws.proofs.Onward.{same_is, is_same, both_true, true_both, begins_either, begins_above, begins_itself, on_through, not_back}
use Rattle.acn_home_laws.proofs.Ways.{slot_is, is_its_slot, node_is, slot_of_node, one_field, field_node, noted_use, user_node, home_over_field, home_over_user, home_node}

either_true : (a b : Bool) → (a || b) ≡ true → (a ≡ true) ⊎ (b ≡ true)
either_true true b h = inl refl
either_true false b h = inr h

first_true : (a b : Bool) → a ≡ true → (a || b) ≡ true
first_true a b h = ap (λ (t : Bool). t || b) h

second_true : (a b : Bool) → b ≡ true → (a || b) ≡ true
second_true true b h = refl
second_true false b h = h

-- where the first holds, so does the second
only_if : (a b : Bool) → (a ≡ true → b ≡ true) → (not a || b) ≡ true
only_if true b f = f refl
only_if false b f = refl

then_holds : (a b : Bool) → (not a || b) ≡ true → a ≡ true → b ≡ true
then_holds true b h e = h
then_holds false b h e = absurd (true≢false (sym e))

is_false : (b : Bool) → (b ≡ true → ⊥) → b ≡ false
is_false true f = absurd (f refl)
is_false false f = refl

-- the nodes inside a node
pub kept_inside : (root : Grammar) (y x : Stand) → In y (nodes_of root) → In x (nodes_of root) → goes_on y.path x.path ≡ true → In x (inside y)
kept_inside root y x m k g = subst (In x) (sym (each_has (λ at. inside at ≡ filter (stands_below at) (nodes_of root)) (nodes_of root) (inside_goes_on root) y m)) (is_kept (stands_below y) (nodes_of root) x k g)

pub was_inside : (root : Grammar) (y x : Stand) → In y (nodes_of root) → In x (inside y) → In x (nodes_of root) × (goes_on y.path x.path ≡ true)
was_inside root y x m k = was_kept (stands_below y) (nodes_of root) x (subst (In x) (each_has (λ at. inside at ≡ filter (stands_below at) (nodes_of root)) (nodes_of root) (inside_goes_on root) y m) k)

module _ (law : HomeLaws) (root : Grammar) (fields : List Path) (noted : List Use) (n : IsNumbered root fields noted) (p : Path) (s : ℕ) (h : number (slots fields noted) p ≡ Some s) where
  abbrev all : List Stand
  all = nodes_of root

  -- a node about the slot is inside the home
  about_inside : (x : Stand) → In x all → is_about s x ≡ true → goes_on (home noted p) x.path ≡ true
  about_inside x m a = by (either_true (is_slot s (slot_here x.role)) (uses_slot s x) a)
    where
      by : (is_slot s (slot_here x.role) ≡ true) ⊎ (uses_slot s x ≡ true) → goes_on (home noted p) x.path ≡ true
      by (inl e) =
          let k = sym (slot_of_node law root fields noted n x m) ∙ slot_is s (slot_here x.role) e in
          subst (λ (q : Path). goes_on (home noted p) q ≡ true) (one_field law root fields noted n p x.path s h k) (home_over_field law root fields noted n p s h)
      by (inr e) =
          let u = noted_use law root fields noted n s x m e in
          ap (goes_on (home noted p)) u.2 ∙ home_over_user law root fields noted n p u.0 u.1 (one_field law root fields noted n p u.0.field s h u.3)

  pub field_about : (x : Stand) → slot_here x.role ≡ Some s → is_about s x ≡ true
  field_about x e = first_true (is_slot s (slot_here x.role)) (uses_slot s x) (is_its_slot s (slot_here x.role) e)

  pub user_about : (x : Stand) → uses_slot s x ≡ true → is_about s x ≡ true
  user_about x e = second_true (is_slot s (slot_here x.role)) (uses_slot s x) e

  enclosed : (y : Stand) → In y all → encloses all s y ≡ (is_seq y.form && list_all (λ x. not (is_about s x) || stands_below y x) all)
  enclosed y m = each_has (λ at. encloses all s at ≡ (is_seq at.form && list_all (λ x. not (is_about s x) || stands_below at x) all)) all (encloses_by_paths root s) y m

  -- a SEQUENCE at the home or round it
  round_encloses : (y : Stand) → In y all → is_seq y.form ≡ true → Begins y.path (home noted p) → encloses all s y ≡ true
  round_encloses y m q b =
      enclosed y m
      ∙ true_both (is_seq y.form) (list_all (λ x. not (is_about s x) || stands_below y x) all) q
      (all_pass (λ x. not (is_about s x) || stands_below y x) all (λ x k. only_if (is_about s x) (stands_below y x) (λ a. on_through y.path (home noted p) x.path b (about_inside x k a))))

  over_user : (y : Stand) → ((x : Stand) → In x all → is_about s x ≡ true → goes_on y.path x.path ≡ true) → (v : Path) → In v (users noted p) → Begins y.path (above v)
  over_user y over v m =
      let a = was_mapped (λ (u : Use). u.user) (filter (λ (u : Use). same p u.field) noted) v m in
      let b = was_kept (λ (u : Use). same p u.field) noted a.0 a.1 in
      let x = user_node law root fields noted n s a.0 b.0 (ap (number (slots fields noted)) (sym (same_is p a.0.field b.1)) ∙ h) in
      begins_above y.path v (ap (goes_on y.path) (a.2 ∙ x.2) ∙ over x.0 x.1 (user_about x.0 x.3))

  -- what encloses the slot is at the home or round it
  enclosing_round : (y : Stand) → In y all → encloses all s y ≡ true → (is_seq y.form ≡ true) × Begins y.path (home noted p)
  enclosing_round y m e =
      let b = both_true (is_seq y.form) (list_all (λ x. not (is_about s x) || stands_below y x) all) (sym (enclosed y m) ∙ e) in
      (b.0, (law.are_smallest noted p).smallest y.path (over_field b.1) (all_have (λ v. Begins y.path (above v)) (users noted p) (over_user y (over b.1))))
    where
      over : list_all (λ x. not (is_about s x) || stands_below y x) all ≡ true → (x : Stand) → In x all → is_about s x ≡ true → goes_on y.path x.path ≡ true
      over g x k a = then_holds (is_about s x) (stands_below y x) (each_passes (λ x. not (is_about s x) || stands_below y x) all g x k) a

      over_field : list_all (λ x. not (is_about s x) || stands_below y x) all ≡ true → Begins y.path (above p)
      over_field g =
          let f = field_node law root fields noted n p s h in
          begins_above y.path p (ap (goes_on y.path) f.2 ∙ over g f.0 f.1 (field_about f.0 f.3))

  at_home : (y : Stand) → In y all → y.path ≡ home noted p → is_home all s y ≡ true
  at_home y m e =
      let f = home_node law root fields noted n p s h in
      let q = ap (λ (z : Stand). is_seq z.form) (node_is law root fields noted n y f.0 m f.1 (e ∙ f.2)) ∙ f.3 in
      true_both (encloses all s y) (not (list_any (encloses all s) (inside y))) (round_encloses y m q (subst (Begins y.path) e (begins_itself y.path)))
      (ap not (none_passes (encloses all s) (inside y) none))
    where
      none : (x : Stand) → In x (inside y) → encloses all s x ≡ true → ⊥
      none x k g =
          let i = was_inside root y x m k in
          not_back y.path x.path i.1 (subst (Begins x.path) (sym e) (enclosing_round x i.0 g).1)

  only_there : (y : Stand) → In y all → is_home all s y ≡ true → y.path ≡ home noted p
  only_there y m e = by (begins_either y.path (home noted p) (enclosing_round y m parts.0).1)
    where
      parts : (encloses all s y ≡ true) × (not (list_any (encloses all s) (inside y)) ≡ true)
      parts = both_true (encloses all s y) (not (list_any (encloses all s) (inside y))) e

      by : (y.path ≡ home noted p) ⊎ (goes_on y.path (home noted p) ≡ true) → y.path ≡ home noted p
      by (inl g) = g
      by (inr g) =
          let f = home_node law root fields noted n p s h in
          let i = kept_inside root y f.0 m f.1 (ap (goes_on y.path) (sym f.2) ∙ g) in
          let t = passes (encloses all s) (inside y) f.0 i (round_encloses f.0 f.1 f.3 (subst (Begins f.0.path) (sym f.2) (begins_itself f.0.path))) in
          absurd (true≢false (sym parts.1 ∙ ap not t))

  home_tells : (y : Stand) → In y all → is_home all s y ≡ same y.path (home noted p)
  home_tells y m = by (same y.path (home noted p)) refl
    where
      by : (t : Bool) → same y.path (home noted p) ≡ t → is_home all s y ≡ t
      by true e = at_home y m (same_is y.path (home noted p) e)
      by false e = is_false (is_home all s y) (λ g. true≢false (sym (is_same y.path (home noted p) (only_there y m g)) ∙ e))

  pub homes_tell : AllByRecursion (λ at. is_home all s at ≡ same at.path (home noted p)) all
  homes_tell = all_have (λ at. is_home all s at ≡ same at.path (home noted p)) all home_tells
