-- Faults of uses: a field behind its user, or of another kind.
use Rattle.std.proofs.Common.{◌≡◌, ℕ, ◌<◌, Bool, true, false, not, List, Option, Some, None, refl, sym, ap, ◌∙◌, subst, arith, nat_lt}
use Rattle.std.specs.Prelude.{option_map, slice_get}
use Rattle.acn_grammar.specs.Check.{CheckFault, forward, det_kind, Evidence, NodeAt, UseOf, AsksFor, number_of_fault}
use Rattle.acn_grammar.specs.Grammar.{Grammar}
use Rattle.acn_grammar.specs.Slots.{slot_leaf}
use Rattle.acn_grammar.specs.Tree.{IsTree}
use Rattle.acn_grammar.specs.Walk.{Stand, Use, condition, item_of, size_of, slot_of, uses}
use Rattle.acn_grammar.specs.declared.node.NumKind.{NumKind}
use Rattle.acn_grammar.specs.declared.node.NumKind.TheVariants.{Integer, Boolean, Enumerated, Null}
use Rattle.acn_grammar.specs.declared.node.NumLeaf.{NumLeaf}
use Rattle.acn_grammar.specs.declared.node.Test.TheVariants.{Flag, Equals}
use Rattle.acn_check.specs.Facts.{seen}
use Rattle.acn_check.specs.First.{Det, dets, given, only_if, behind, behind_here, wrong_kind, wrong_kind_here, fits_kind}
use Rattle.acn_check.specs.Order.{lines_of}
use Rattle.acn_check.proofs.Assembly.{some_inj}
use Rattle.acn_check.proofs.DetLaw.{entry_field, field_entry, leaf_entry}
use Rattle.acn_check.proofs.KindLaws.{UseLaw}
use Rattle.acn_check.proofs.Numbers.{only_forward, only_det_kind, plain_tail}
use Rattle.std.proofs.lemmas.Bool.{ltb-true, lt-ltb}

-- the kind of a leaf fits the use exactly where the use asks for it
fits_asked : (use' : Use) (kind : NumKind) → fits_kind use' kind ≡ true → AsksFor use' kind
fits_asked (condition (Flag s)) Boolean h = tt
fits_asked (condition (Flag s)) Integer h = cc
fits_asked (condition (Flag s)) Enumerated h = cc
fits_asked (condition (Flag s)) Null h = cc
fits_asked (condition (Equals s k)) Integer h = tt
fits_asked (condition (Equals s k)) Boolean h = cc
fits_asked (condition (Equals s k)) Enumerated h = cc
fits_asked (condition (Equals s k)) Null h = cc
fits_asked (item_of s) Enumerated h = tt
fits_asked (item_of s) Integer h = cc
fits_asked (item_of s) Boolean h = cc
fits_asked (item_of s) Null h = cc
fits_asked (size_of s) Integer h = tt
fits_asked (size_of s) Boolean h = cc
fits_asked (size_of s) Enumerated h = cc
fits_asked (size_of s) Null h = cc

asked_fits : (use' : Use) (kind : NumKind) → AsksFor use' kind → fits_kind use' kind ≡ true
asked_fits (condition (Flag s)) Boolean h = refl
asked_fits (condition (Flag s)) Integer h = absurd h
asked_fits (condition (Flag s)) Enumerated h = absurd h
asked_fits (condition (Flag s)) Null h = absurd h
asked_fits (condition (Equals s k)) Integer h = refl
asked_fits (condition (Equals s k)) Boolean h = absurd h
asked_fits (condition (Equals s k)) Enumerated h = absurd h
asked_fits (condition (Equals s k)) Null h = absurd h
asked_fits (item_of s) Enumerated h = refl
asked_fits (item_of s) Integer h = absurd h
asked_fits (item_of s) Boolean h = absurd h
asked_fits (item_of s) Null h = absurd h
asked_fits (size_of s) Integer h = refl
asked_fits (size_of s) Boolean h = absurd h
asked_fits (size_of s) Enumerated h = absurd h
asked_fits (size_of s) Null h = absurd h

pub only_true : {A : Type 0} (b : Bool) (x y : A) → only_if b x ≡ Some y → (b ≡ true) × (x ≡ y)
only_true true x y e = (refl, some_inj x y e)
only_true false x y e = cc

pub only_none : {A : Type 0} (b : Bool) (x : A) → b ≡ true → only_if b x ≡ None → ⊥
only_none true x h e = cc
only_none false x h e = cc

not_true : (b : Bool) → not b ≡ true → b ≡ true → ⊥
not_true true h g = cc
not_true false h g = cc

true_not : (b : Bool) → (b ≡ true → ⊥) → not b ≡ true
true_not true h = absurd (h refl)
true_not false h = refl

module _ (root : Grammar) (tree : IsTree root) where
  abbrev table : List Det
  table = dets 0 (lines_of root)

  -- a use of the slot of an entry
  use_of : (k u : ℕ) (at : Stand) (use' : Use) (d : Det) → NodeAt root k at → slice_get (uses at) u ≡ Some use' → slice_get table (slot_of use') ≡ Some d → UseOf root k u at.path d.path use' d.at
  use_of k u at use' d is h e =
      let f = entry_field root tree (slot_of use') d e in
      record { at = at; field = f.field; is_at = is; is_use = h; is_field = f.is_at; slot = f.slot; user_path = refl; det_path = f.path }

  -- Forward

  take_behind : (k u : ℕ) (at : Stand) (named : Use) (f : CheckFault) → NodeAt root k at → slice_get (uses at) u ≡ Some named → behind table k (seen at) named ≡ Some f → (number_of_fault f ≡ 1) × Evidence root f k u
  take_behind k u at named f is h e = by (slice_get table (slot_of named)) refl e
    where
      by : (o : Option Det) → slice_get table (slot_of named) ≡ o → given o (behind_here k at.path) ≡ Some f → (number_of_fault f ≡ 1) × Evidence root f k u
      by None g e' = cc
      by (Some d) g e' =
          let t = only_true (nat_lt k d.at) (forward at.path d.path) f e' in
          (ap number_of_fault (sym t.1), subst (λ x. Evidence root x k u) t.1 (record { named = named; field_at = d.at; use_is = use_of k u at named d is h g; behind = ltb-true k d.at t.0 }))

  give_behind : (f : CheckFault) (k u : ℕ) → number_of_fault f ≡ 1 → Evidence root f k u → (at : Stand) × (named : Use) × NodeAt root k at × (slice_get (uses at) u ≡ Some named) × (behind table k (seen at) named ≡ None → ⊥)
  give_behind f k u is e =
      let o = only_forward f is in
      let e' : Evidence root (forward o.0 o.1) k u = subst (λ x. Evidence root x k u) o.2 e in
      let used = e'.use_is in
      let t = field_entry root tree e'.field_at (slot_of e'.named) used.field used.is_field used.slot in
      let less : k < t.det.at = (let n = t.node in let l = e'.behind in omega (arith, n, l)) in
      (used.at, e'.named, used.is_at, used.is_use, λ none. only_none (nat_lt k t.det.at) (forward used.at.path t.det.path) (lt-ltb k t.det.at less) (sym (ap (λ d. given d (behind_here k used.at.path)) t.is_here) ∙ none))

  pub behind_law : UseLaw root 1 (behind table)
  behind_law = record {
    plain = λ f u is. plain_tail f u (λ four. absurd (omega arith)) (λ seven. absurd (omega arith));
    take = take_behind;
    give = give_behind;
  }

  -- DetKind

  take_kind : (k u : ℕ) (at : Stand) (named : Use) (f : CheckFault) → NodeAt root k at → slice_get (uses at) u ≡ Some named → wrong_kind table (seen at) named ≡ Some f → (number_of_fault f ≡ 2) × Evidence root f k u
  take_kind k u at named f is h e = by (slice_get table (slot_of named)) refl e
    where
      by : (o : Option Det) → slice_get table (slot_of named) ≡ o → given o (wrong_kind_here named at.path) ≡ Some f → (number_of_fault f ≡ 2) × Evidence root f k u
      by None g e' = cc
      by (Some d) g e' =
          let t = only_true (not (fits_kind named d.leaf.kind)) (det_kind at.path d.path) f e' in
          let leaf : slot_leaf root (slot_of named) ≡ Some d.leaf = leaf_entry root tree (slot_of named) ∙ ap (option_map (λ (x : Det). x.leaf)) g in
          (ap number_of_fault (sym t.1), subst (λ x. Evidence root x k u) t.1 (record { named = named; field_at = d.at; leaf = d.leaf; use_is = use_of k u at named d is h g; leaf_is = leaf; another = λ asks. not_true (fits_kind named d.leaf.kind) t.0 (asked_fits named d.leaf.kind asks) }))

  give_kind : (f : CheckFault) (k u : ℕ) → number_of_fault f ≡ 2 → Evidence root f k u → (at : Stand) × (named : Use) × NodeAt root k at × (slice_get (uses at) u ≡ Some named) × (wrong_kind table (seen at) named ≡ None → ⊥)
  give_kind f k u is e =
      let o = only_det_kind f is in
      let e' : Evidence root (det_kind o.0 o.1) k u = subst (λ x. Evidence root x k u) o.2 e in
      let used = e'.use_is in
      let t = field_entry root tree e'.field_at (slot_of e'.named) used.field used.is_field used.slot in
      let leaf : Some t.det.leaf ≡ Some e'.leaf = sym (leaf_entry root tree (slot_of e'.named) ∙ ap (option_map (λ (x : Det). x.leaf)) t.is_here) ∙ e'.leaf_is in
      let same : t.det.leaf ≡ e'.leaf = some_inj t.det.leaf e'.leaf leaf in
      let wrong = true_not (fits_kind e'.named t.det.leaf.kind) (λ fits. e'.another (fits_asked e'.named e'.leaf.kind (ap (λ (l : NumLeaf). fits_kind e'.named l.kind) (sym same) ∙ fits))) in
      (used.at, e'.named, used.is_at, used.is_use, λ none. only_none (not (fits_kind e'.named t.det.leaf.kind)) (det_kind used.at.path t.det.path) wrong (sym (ap (λ d. given d (wrong_kind_here e'.named used.at.path)) t.is_here) ∙ none))

  pub kind_law : UseLaw root 2 (λ k f named. wrong_kind table f named)
  kind_law = record {
    plain = λ f u is. plain_tail f u (λ four. absurd (omega arith)) (λ seven. absurd (omega arith));
    take = take_kind;
    give = give_kind;
  }
