-- A slot whose field stands in a SEQUENCE, or in SEQUENCEs inside it that are always there, is near it.
use Rattle.std.proofs.Common.{◌≡◌, inl, inr, ℕ, suc, Bool, true, true≢false, ◌||◌, List, [], ◌∷◌, ◌++◌, Option, Some, None, refl, sym, ap, subst, ◌∙◌}
use Rattle.acn_grammar.specs.Grammar.{Grammar, Form, Fields, node, num, octets, bits, text, seq, list, choice, contained, no_fields, component, inserted}
use Rattle.acn_grammar.specs.Tree.{holds, is_seq, near, near_form, near_if, slot_list}
use Rattle.acn_grammar.specs.Walk.{Stand, component_role, an_inserted, form_nodes, field_nodes, slot_here}
use Rattle.acn_grammar.specs.declared.node.Presence.{Presence}
use Rattle.acn_grammar.specs.declared.node.Presence.TheVariants.{Always, Bit, When}
use Rattle.acn_home_laws.specs.Laws.{paths, goes_on}
use Rattle.acn_home_laws.specs.Numbered.{is_always, always_there}
use Rattle.acn_home_laws.proofs.Below.{holds_front, holds_back}
use Rattle.acn_home_laws.proofs.Members.{In, split_in, first_is, in_front, in_back, each_has, is_mapped}
use Rattle.acn_home_laws.proofs.Onward.{itself_equal, on_by}
use Rattle.acn_home_laws.proofs.Rising.{From, form_from}

-- a node on the way down: a SEQUENCE that is always there
abbrev pub IsOpen : Stand → Type 0
IsOpen z = (is_seq z.form ≡ true) × (always_there z.role ≡ true)

-- so is each of these above the node
abbrev pub OpenTo : Stand → List Stand → Type 0
OpenTo x xs = (z : Stand) → In z xs → goes_on z.path x.path ≡ true → IsOpen z

near_here : (presence : Presence) (ss : List ℕ) (s : ℕ) → is_always presence ≡ true → holds ss s ≡ true → holds (near_if presence ss) s ≡ true
near_here Always ss s h k = k
near_here Bit ss s h k = absurd (true≢false (sym h))
near_here (When ts) ss s h k = absurd (true≢false (sym h))

own_held : (slot : Option ℕ) (rest : List ℕ) (s : ℕ) → slot ≡ Some s → holds (slot_list slot ++ rest) s ≡ true
own_held slot rest s e = subst (λ (o : Option ℕ). holds (slot_list o ++ rest) s ≡ true) (sym e) (ap (λ (t : Bool). t || holds rest s) (itself_equal s))

inserted_held : (name : List ℕ) (g : Grammar) (slot : Option ℕ) (fs : Fields) (s : ℕ) → slot ≡ Some s → holds (near (inserted name g slot fs)) s ≡ true
inserted_held name g slot fs s e = subst (λ (o : Option ℕ). holds (near (inserted name g o fs)) s ≡ true) (sym e) (ap (λ (t : Bool). t || holds (near fs) s) (itself_equal s))

inserted_more : (name : List ℕ) (g : Grammar) (slot : Option ℕ) (fs : Fields) (s : ℕ) → holds (near fs) s ≡ true → holds (near (inserted name g slot fs)) s ≡ true
inserted_more name g None fs s h = h
inserted_more name g (Some t) fs s h = holds_back (t ∷ []) (near fs) s h

-- a node inside goes on from the one above
inside_on : (path around : List ℕ) (form : Form) (x : Stand) → In x (form_nodes path around form) → goes_on path x.path ≡ true
inside_on path around form x m =
    let f = each_has (From path 0) (paths (form_nodes path around form)) (form_from path around form) x.path (is_mapped (λ (at : Stand). at.path) (form_nodes path around form) x m) in
    ap (goes_on path) f.3 ∙ on_by path f.0 f.1

mutual
  near_inside : (path around : List ℕ) (form : Form) (x : Stand) (s : ℕ) → In x (form_nodes path around form) → slot_here x.role ≡ Some s → is_seq form ≡ true → OpenTo x (form_nodes path around form) → holds (near_form form) s ≡ true
  near_inside path around (num leaf) x s m h q open_to = absurd m
  near_inside path around (octets sizing) x s m h q open_to = absurd m
  near_inside path around (bits sizing) x s m h q open_to = absurd m
  near_inside path around (text leaf) x s m h q open_to = absurd m
  near_inside path around (seq fields home) x s m h q open_to = near_fields path (home ++ around) 0 fields x s m h open_to
  near_inside path around (list sizing g) x s m h q open_to = absurd (true≢false (sym q))
  near_inside path around (choice more rule) x s m h q open_to = absurd (true≢false (sym q))
  near_inside path around (contained sizing g) x s m h q open_to = absurd (true≢false (sym q))

  pub near_fields : (path around : List ℕ) (k : ℕ) (fs : Fields) (x : Stand) (s : ℕ) → In x (field_nodes path around k fs) → slot_here x.role ≡ Some s → OpenTo x (field_nodes path around k fs) → holds (near fs) s ≡ true
  near_fields path around k no_fields x s m h open_to = absurd m
  near_fields path around k (component name (node align form) presence default slot fs) x s m h open_to =
      let here : Stand = record { path = path ++ k ∷ []; around = around; role = component_role name presence default slot; align = align; form = form } in
      let mine = form_nodes (path ++ k ∷ []) around form in
      let rest = field_nodes path around (suc k) fs in
      split_in (here ∷ mine) rest x m
      (λ n. split_in (here ∷ []) mine x n
      (λ i. first_is here x i (λ e. own_held slot (near_if presence (near_form form) ++ near fs) s (sym (ap (λ (z : Stand). slot_here z.role) e) ∙ h)))
      (λ i. holds_back (slot_list slot) (near_if presence (near_form form) ++ near fs) s
      (let o = open_to here (inl refl) (inside_on (path ++ k ∷ []) around form x i) in
      holds_front (near_if presence (near_form form)) (near fs) s
      (near_here presence (near_form form) s o.1 (near_inside (path ++ k ∷ []) around form x s i h o.0 (λ z j. open_to z (inr (in_front mine rest z j))))))))
      (λ n. holds_back (slot_list slot) (near_if presence (near_form form) ++ near fs) s
      (holds_back (near_if presence (near_form form)) (near fs) s
      (near_fields path around (suc k) fs x s n h (λ z j. open_to z (inr (in_back mine rest z j))))))
  near_fields path around k (inserted name (node align form) slot fs) x s m h open_to =
      let here : Stand = record { path = path ++ k ∷ []; around = around; role = an_inserted name slot; align = align; form = form } in
      let mine = form_nodes (path ++ k ∷ []) around form in
      let rest = field_nodes path around (suc k) fs in
      split_in (here ∷ mine) rest x m
      (λ n. split_in (here ∷ []) mine x n
      (λ i. first_is here x i (λ e. inserted_held name (node align form) slot fs s (sym (ap (λ (z : Stand). slot_here z.role) e) ∙ h)))
      (λ i. absurd (true≢false (sym (open_to here (inl refl) (inside_on (path ++ k ∷ []) around form x i)).1))))
      (λ n. inserted_more name (node align form) slot fs s (near_fields path around (suc k) fs x s n h (λ z j. open_to z (inr (in_back mine rest z j)))))
