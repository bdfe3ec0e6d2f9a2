-- Faults of slots: codes of several lengths, no use, too many conditions.
use Rattle.std.proofs.Common.{◌≡◌, ℕ, ◌≤◌, Bool, true, false, not, List, Option, Some, None, refl, sym, ap, ◌∙◌, subst, arith, nat_lt, map}
use Rattle.std.specs.Prelude.{option_map, slice_get}
use Rattle.std.specs.List.{flat_map}
use Rattle.acn_grammar.specs.Check.{CheckFault, det_width, unused, too_many_conditions, Evidence, NodeAt, HasWidth, HasOneWidth, equals_on, number_of_fault}
use Rattle.acn_grammar.specs.Grammar.{Grammar}
use Rattle.acn_grammar.specs.Interval.{width_of}
use Rattle.acn_packet_laws.specs.Laws.{WidthsAreLengths}
use Rattle.acn_grammar.specs.Leaves.{num_fine}
use Rattle.acn_grammar.specs.Slots.{slot_leaf}
use Rattle.acn_grammar.specs.Tree.{IsTree}
use Rattle.acn_grammar.specs.Walk.{Stand, Role, root_node, a_component, an_inserted, an_alternative, an_element, a_content, slot_of, uses, nodes_of, slot_here, inserted_slot}
use Rattle.acn_grammar.specs.declared.node.NumLeaf.{NumLeaf}
use Rattle.acn_check.specs.Facts.{seen, is_component}
use Rattle.acn_check.specs.First.{Det, Tally, dets, given, only_if, width_fits, slot_inserted, no_width, no_use}
use Rattle.acn_check.specs.Order.{lines_of, tallies_of, many_equals}
use Rattle.acn_check.proofs.Assembly.{some_inj}
use Rattle.acn_check.proofs.DetLaw.{field_entry, leaf_entry}
use Rattle.acn_check.proofs.KindLaws.{PlainLaw}
use Rattle.acn_check.proofs.KindUses.{only_true, only_none}
use Rattle.acn_check.proofs.Numbers.{only_det_width, only_unused, only_too_many_conditions, plain_tail}
use Rattle.acn_check.proofs.TallyLaw.{tallied_law}
use Rattle.acn_check.proofs.Telling.{all_at}
use Rattle.acn_check.proofs.TreeFits.{leaves_fine}
use Rattle.std.proofs.lemmas.Bool.{ltb-true, lt-ltb, leb-true, le-leb, not-true}
use Rattle.acn_grammar.proofs.SlotLists.{contains_holds, holds_contains}

clash : (b : Bool) → b ≡ true → b ≡ false → ⊥
clash true h g = cc
clash false h g = cc

is_not : (b : Bool) → (b ≡ true → ⊥) → not b ≡ true
is_not true h = absurd (h refl)
is_not false h = refl

-- the slot of an inserted field
inserted_is : (role : Role) → slot_inserted (is_component role) (slot_here role) ≡ inserted_slot role
inserted_is root_node = refl
inserted_is (a_component one) = refl
inserted_is (an_inserted name slot) = refl
inserted_is (an_alternative one) = refl
inserted_is an_element = refl
inserted_is a_content = refl

pub inserted_here : (role : Role) (s : ℕ) → inserted_slot role ≡ Some s → slot_here role ≡ Some s
inserted_here (an_inserted name slot) s e = e
inserted_here root_node s e = cc
inserted_here (a_component one) s e = cc
inserted_here (an_alternative one) s e = cc
inserted_here an_element s e = cc
inserted_here a_content s e = cc

module _ (root : Grammar) (tree : IsTree root) where
  abbrev table : List Det
  table = dets 0 (lines_of root)

  abbrev tallies : List Tally
  tallies = tallies_of (lines_of root)

  -- a field in its table
  given_slot : {A : Type 0} (k s : ℕ) (at : Stand) (f : ℕ → Option A) → slot_here at.role ≡ Some s → given (slot_here at.role) f ≡ f s
  given_slot k s at f e = ap (λ o. given o f) e

  some_slot : {A : Type 0} (o : Option ℕ) (f : ℕ → Option A) (x : A) → given o f ≡ Some x → (s : ℕ) × (o ≡ Some s) × (f s ≡ Some x)
  some_slot None f x e = cc
  some_slot (Some s) f x e = (s, refl, e)

  -- DetWidth

  abbrev wide_here : List ℕ → Det → Option CheckFault
  wide_here path d = only_if (not (width_fits (width_of d.leaf))) (det_width path)

  module _ (widths : WidthsAreLengths) where
    -- a leaf has a width of at most 64 bits exactly where the test says so
    fits_width : (leaf : NumLeaf) → num_fine leaf ≡ true → (w : ℕ) → HasWidth leaf w → w ≤ 64 → width_fits (width_of leaf) ≡ true
    fits_width leaf fine w h le = ap width_fits ((widths leaf w fine).1 h) ∙ le-leb w 64 le

    width_fit : (leaf : NumLeaf) → num_fine leaf ≡ true → width_fits (width_of leaf) ≡ true → HasOneWidth leaf
    width_fit leaf fine h = by (width_of leaf) refl h
      where
        by : (o : Option ℕ) → width_of leaf ≡ o → width_fits o ≡ true → HasOneWidth leaf
        by None e g = cc
        by (Some w) e g = record { width = w; all_codes = (widths leaf w fine).0 e; narrow = leb-true w 64 g }

    leaf_fine : (s : ℕ) (d : Det) → slice_get table s ≡ Some d → num_fine d.leaf ≡ true
    leaf_fine s d e = all_at (λ (x : Det). num_fine x.leaf) table s d (leaves_fine root tree) e

    take_width : (k : ℕ) (at : Stand) (f : CheckFault) → NodeAt root k at → no_width table k (seen at) ≡ Some f → (number_of_fault f ≡ 3) × Evidence root f k 0
    take_width k at f is e =
        let s = some_slot (slot_inserted (is_component at.role) (slot_here at.role)) (λ s. given (slice_get table s) (wide_here at.path)) f e in
        let slot = sym (inserted_is at.role) ∙ s.1 in
        let t = field_entry root tree k s.0 at is (inserted_here at.role s.0 slot) in
        let g : wide_here at.path t.det ≡ Some f = ap (λ o. given o (wide_here at.path)) (sym t.is_here) ∙ s.2 in
        let o = only_true (not (width_fits (width_of t.det.leaf))) (det_width at.path) f g in
        let leaf : slot_leaf root s.0 ≡ Some t.det.leaf = leaf_entry root tree s.0 ∙ ap (option_map (λ (x : Det). x.leaf)) t.is_here in
        let fine = leaf_fine s.0 t.det t.is_here in (
          ap number_of_fault (sym o.1),
          subst (λ x. Evidence root x k 0) o.1 (record {
            at = at;
            is_at = is;
            path_is = refl;
            slot = s.0;
            slot_is = slot;
            leaf = t.det.leaf;
            leaf_is = leaf;
            no_width = λ w. clash (width_fits (width_of t.det.leaf)) (fits_width t.det.leaf fine w.width w.all_codes w.narrow) (not-true (width_fits (width_of t.det.leaf)) o.0);
          }),
        )

    give_width : (f : CheckFault) (k u : ℕ) → number_of_fault f ≡ 3 → Evidence root f k u → (at : Stand) × NodeAt root k at × (no_width table k (seen at) ≡ None → ⊥)
    give_width f k u is e =
        let o = only_det_width f is in
        let e' : Evidence root (det_width o.0) k u = subst (λ x. Evidence root x k u) o.1 e in
        let t = field_entry root tree k e'.slot e'.at e'.is_at (inserted_here e'.at.role e'.slot e'.slot_is) in
        let leaf : Some t.det.leaf ≡ Some e'.leaf = sym (leaf_entry root tree e'.slot ∙ ap (option_map (λ (x : Det). x.leaf)) t.is_here) ∙ e'.leaf_is in
        let same : t.det.leaf ≡ e'.leaf = some_inj t.det.leaf e'.leaf leaf in
        let fine = leaf_fine e'.slot t.det t.is_here in
        let wide = is_not (width_fits (width_of t.det.leaf)) (λ fits. e'.no_width (subst HasOneWidth same (width_fit t.det.leaf fine fits))) in
        (e'.at, e'.is_at, λ none. only_none (not (width_fits (width_of t.det.leaf))) (det_width e'.at.path) wide (sym (ap (λ o. given o (λ s. given (slice_get table s) (wide_here e'.at.path))) (inserted_is e'.at.role ∙ e'.slot_is) ∙ ap (λ d. given d (wide_here e'.at.path)) t.is_here) ∙ none))

    pub width_law : PlainLaw root 3 (no_width table)
    width_law = record {
      plain = λ f u is. plain_tail f u (λ four. absurd (omega arith)) (λ seven. absurd (omega arith));
      take = take_width;
      give = give_width;
    }

  -- Unused

  abbrev idle_here : List ℕ → Tally → Option CheckFault
  idle_here path t = only_if (not t.used) (unused path)

  take_unused : (k : ℕ) (at : Stand) (f : CheckFault) → NodeAt root k at → no_use tallies k (seen at) ≡ Some f → (number_of_fault f ≡ 6) × Evidence root f k 0
  take_unused k at f is e =
      let s = some_slot (slot_here at.role) (λ s. given (slice_get tallies s) (idle_here at.path)) f e in
      let d = field_entry root tree k s.0 at is s.1 in
      let t = tallied_law root s.0 d.det d.is_here in
      let g : idle_here at.path t.tally ≡ Some f = ap (λ o. given o (idle_here at.path)) (sym t.is_here) ∙ s.2 in
      let o = only_true (not t.tally.used) (unused at.path) f g in
      let idle = not-true t.tally.used o.0 in
      (ap number_of_fault (sym o.1), subst (λ x. Evidence root x k 0) o.1 (record { at = at; is_at = is; path_is = refl; slot = s.0; slot_is = s.1; no_use = λ c. clash t.tally.used (t.used ∙ contains_holds (map slot_of (flat_map uses (nodes_of root))) s.0 c) idle }))

  give_unused : (f : CheckFault) (k u : ℕ) → number_of_fault f ≡ 6 → Evidence root f k u → (at : Stand) × NodeAt root k at × (no_use tallies k (seen at) ≡ None → ⊥)
  give_unused f k u is e =
      let o = only_unused f is in
      let e' : Evidence root (unused o.0) k u = subst (λ x. Evidence root x k u) o.1 e in
      let d = field_entry root tree k e'.slot e'.at e'.is_at e'.slot_is in
      let t = tallied_law root e'.slot d.det d.is_here in
      let idle = is_not t.tally.used (λ used. e'.no_use (holds_contains (map slot_of (flat_map uses (nodes_of root))) e'.slot (sym t.used ∙ used))) in
      (e'.at, e'.is_at, λ none. only_none (not t.tally.used) (unused e'.at.path) idle (sym (given_slot k e'.slot e'.at (λ s. given (slice_get tallies s) (idle_here e'.at.path)) e'.slot_is ∙ ap (λ x. given x (idle_here e'.at.path)) t.is_here) ∙ none))

  pub unused_law : PlainLaw root 6 (no_use tallies)
  unused_law = record {
    plain = λ f u is. plain_tail f u (λ four. absurd (omega arith)) (λ seven. absurd (omega arith));
    take = take_unused;
    give = give_unused;
  }

  -- TooManyConditions

  abbrev equals_here : List ℕ → ℕ → Option CheckFault
  equals_here path s = only_if (nat_lt 64 (equals_on root s)) (too_many_conditions path (equals_on root s))

  take_equals : (k : ℕ) (at : Stand) (f : CheckFault) → NodeAt root k at → many_equals root k (seen at) ≡ Some f → (number_of_fault f ≡ 11) × Evidence root f k 0
  take_equals k at f is e =
      let s = some_slot (slot_here at.role) (equals_here at.path) f e in
      let o = only_true (nat_lt 64 (equals_on root s.0)) (too_many_conditions at.path (equals_on root s.0)) f s.2 in
      (ap number_of_fault (sym o.1), subst (λ x. Evidence root x k 0) o.1 (record { at = at; is_at = is; path_is = refl; slot = s.0; slot_is = s.1; count_is = refl; many = ltb-true 64 (equals_on root s.0) o.0 }))

  give_equals : (f : CheckFault) (k u : ℕ) → number_of_fault f ≡ 11 → Evidence root f k u → (at : Stand) × NodeAt root k at × (many_equals root k (seen at) ≡ None → ⊥)
  give_equals f k u is e =
      let o = only_too_many_conditions f is in
      let e' : Evidence root (too_many_conditions o.0 o.1) k u = subst (λ x. Evidence root x k u) o.2 e in
      let many = lt-ltb 64 (equals_on root e'.slot) (let h = e'.count_is in let g = e'.many in omega (arith, h, g)) in
      (e'.at, e'.is_at, λ none. only_none (nat_lt 64 (equals_on root e'.slot)) (too_many_conditions e'.at.path (equals_on root e'.slot)) many (sym (given_slot k e'.slot e'.at (equals_here e'.at.path) e'.slot_is) ∙ none))

  pub equals_law : PlainLaw root 11 (many_equals root)
  equals_law = record {
    plain = λ f u is. plain_tail f u (λ four. absurd (omega arith)) (λ seven. absurd (omega arith));
    take = take_equals;
    give = give_equals;
  }
