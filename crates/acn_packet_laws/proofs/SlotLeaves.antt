-- The leaf of a slot is the one node that says it.
use Rattle.std.proofs.Common.{◌≡◌, ℕ, suc, Bool, true, false, List, [], ◌∷◌, ◌++◌, Option, Some, None, refl, sym, ◌∙◌, append_assoc, nat_eq}
use Rattle.std.proofs.lemmas.Bool.{false_from_ne_true, or_left, or_parts, or_right}
use Rattle.std.specs.Prelude.{if◌then◌else◌}
use Rattle.std.specs.List.{list_any}
use Rattle.acn_grammar.specs.Check.{CheckFault, Undecodable}
use Rattle.acn_grammar.specs.Grammar.{Grammar, Form, Fields, Alternatives, node, num, octets, bits, text, seq, list, choice, contained, no_fields, component, inserted, no_alternatives, alternative}
use Rattle.acn_grammar.specs.Slots as slots
use Rattle.acn_grammar.specs.Slots.{first_of_two, number_leaf, slot_leaf, form_leaf, fields_leaf, alternatives_leaf}
use Rattle.acn_grammar.specs.Tree.{IsTree, is_slot}
use Rattle.acn_grammar.specs.Walk.{Stand, Role, component_role, an_inserted, alternative_role, an_element, a_content, nodes, nodes_of, form_nodes, field_nodes, alternative_nodes, slot_here}
use Rattle.acn_grammar.specs.declared.node.ChoiceRule.{ChoiceRule}
use Rattle.acn_grammar.specs.declared.node.NumLeaf.{NumLeaf}
use Rattle.acn_packet_laws.proofs.Placed.{any-append, any_left, any_right, field_is, has_field, twice, here_at, split_here, slot_in}
use Rattle.acn_packet_laws.proofs.Scoping.{At, numbers, rules}

passed : (own : Option ℕ) (s : ℕ) (a b : Option NumLeaf) → is_slot s own ≡ false → slots.is_slot own s a b ≡ b
passed None s a b h = refl
passed (Some t) s a b h = by (nat_eq t s) h
  where
    by : (c : Bool) → c ≡ false → (if c then a else b) ≡ b
    by true h = cc
    by false h = refl

taken : (own : Option ℕ) (s : ℕ) (a b : Option NumLeaf) → is_slot s own ≡ true → slots.is_slot own s a b ≡ a
taken None s a b h = cc
taken (Some t) s a b h = by (nat_eq t s) h
  where
    by : (c : Bool) → c ≡ true → (if c then a else b) ≡ a
    by true h = refl
    by false h = cc

first_gone : (a b : Option NumLeaf) → a ≡ None → first_of_two a b ≡ b
first_gone None b h = refl
first_gone (Some x) b h = cc

second_gone : (a b : Option NumLeaf) → b ≡ None → first_of_two a b ≡ a
second_gone None b h = h
second_gone (Some x) b h = refl

apart_false : (p : Stand → Bool) (a b : List Stand) → list_any p (a ++ b) ≡ false → (list_any p a ≡ false) × (list_any p b ≡ false)
apart_false p a b h = or_parts (list_any p a) (list_any p b) (sym (any-append p a b) ∙ h)

no_field_leaf : (g : Grammar) (role : Role) (path around : List ℕ) (b : List Stand) (s : ℕ) (rest : Option NumLeaf) → (has_field s (nodes role path around g) ≡ false → slot_leaf g s ≡ None) → (has_field s b ≡ false → rest ≡ None) → has_field s (nodes role path around g ++ b) ≡ false
    → slots.is_slot (slot_here role) s (number_leaf g) (first_of_two (slot_leaf g s) rest) ≡ None
no_field_leaf g role path around b s rest one more h =
    let f = apart_false (field_is s) (nodes role path around g) b h in
    passed (slot_here role) s (number_leaf g) (first_of_two (slot_leaf g s) rest) (false_from_ne_true (is_slot s (slot_here role)) (λ q. let r = slot_in role path around g s q in let l = f.0 in cc))
    ∙ (first_gone (slot_leaf g s) rest (one f.0) ∙ more f.1)

-- where no field is there is no leaf
mutual
  pub no_leaf : (form : Form) (path around : List ℕ) (s : ℕ) → has_field s (form_nodes path around form) ≡ false → form_leaf form s ≡ None
  no_leaf (num leaf) path around s h = refl
  no_leaf (octets sizing) path around s h = refl
  no_leaf (bits sizing) path around s h = refl
  no_leaf (text leaf) path around s h = refl
  no_leaf (seq fields home) path around s h = no_fields_leaf fields path (home ++ around) 0 s h
  no_leaf (list sizing g) path around s h = no_node_leaf g an_element (path ++ 0 ∷ []) around s h
  no_leaf (choice cases rule) path around s h = no_cases_leaf cases rule path around 0 s h
  no_leaf (contained sizing g) path around s h = no_node_leaf g a_content (path ++ 0 ∷ []) around s h

  pub no_node_leaf : (g : Grammar) (role : Role) (path around : List ℕ) (s : ℕ) → has_field s (nodes role path around g) ≡ false → slot_leaf g s ≡ None
  no_node_leaf (node align form) role path around s h = no_leaf form path around s (or_parts (is_slot s (slot_here role)) (has_field s (form_nodes path around form)) h).1

  pub no_fields_leaf : (fs : Fields) (path around : List ℕ) (k s : ℕ) → has_field s (field_nodes path around k fs) ≡ false → fields_leaf fs s ≡ None
  no_fields_leaf no_fields path around k s h = refl
  no_fields_leaf (component name g presence default own fs) path around k s h =
      no_field_leaf g (component_role name presence default own) (path ++ k ∷ []) around (field_nodes path around (suc k) fs) s (fields_leaf fs s) (no_node_leaf g (component_role name presence default own) (path ++ k ∷ []) around s) (no_fields_leaf fs path around (suc k) s) h
  no_fields_leaf (inserted name g slot fs) path around k s h =
      no_field_leaf g (an_inserted name slot) (path ++ k ∷ []) around (field_nodes path around (suc k) fs) s (fields_leaf fs s) (no_node_leaf g (an_inserted name slot) (path ++ k ∷ []) around s) (no_fields_leaf fs path around (suc k) s) h

  pub no_cases_leaf : (cases : Alternatives) (rule : ChoiceRule) (path around : List ℕ) (k s : ℕ) → has_field s (alternative_nodes rule path around k cases) ≡ false → alternatives_leaf cases s ≡ None
  no_cases_leaf no_alternatives rule path around k s h = refl
  no_cases_leaf (alternative name g tests more) rule path around k s h =
      let f = apart_false (field_is s) (nodes (alternative_role name tests rule) (path ++ k ∷ []) around g) (alternative_nodes rule path around (suc k) more) h in
      first_gone (slot_leaf g s) (alternatives_leaf more s) (no_node_leaf g (alternative_role name tests rule) (path ++ k ∷ []) around s f.0) ∙ no_cases_leaf more rule path around (suc k) s f.1

module _ (root : Grammar) (tree : IsTree root) (sound : (f : CheckFault) → Undecodable root f → ⊥) where
  -- the part gives the leaf of each slot whose field stands in it
  abbrev pub Leafed : List Stand → (ℕ → Option NumLeaf) → Type 0
  Leafed part leaf = (s : ℕ) → has_field s part ≡ true → slot_leaf root s ≡ leaf s

  -- a node that says a slot has no other field of it inside
  here_not : (pre : List Stand) (role : Role) (path around : List ℕ) (align : ℕ) (form : Form) (post : List Stand) → At root tree sound pre role path around (node align form) post → (s : ℕ) → has_field s (form_nodes path around form) ≡ true → is_slot s (slot_here role) ≡ false
  here_not pre role path around align form post p s h = false_from_ne_true (is_slot s (slot_here role)) (λ e.
      twice (nodes_of root) (numbers root tree sound) (rules root tree sound) (pre ++ here_at role path around align form ∷ []) (form_nodes path around form ++ post) (p.whole ∙ split_here pre (here_at role path around align form) (form_nodes path around form) post) s
      (any_right (field_is s) pre (here_at role path around align form ∷ []) (or_left (is_slot s (slot_here role)) false e)) (any_left (field_is s) (form_nodes path around form) post h))

  not_behind : (pre : List Stand) (role : Role) (path around : List ℕ) (g : Grammar) (b post : List Stand) → At root tree sound pre role path around g (b ++ post) → (s : ℕ) → has_field s (nodes role path around g) ≡ true → has_field s b ≡ true → ⊥
  not_behind pre role path around g b post p s h k =
      twice (nodes_of root) (numbers root tree sound) (rules root tree sound) (pre ++ nodes role path around g) (b ++ post) (p.whole ∙ sym (append_assoc pre (nodes role path around g) (b ++ post))) s
      (any_right (field_is s) pre (nodes role path around g) h) (any_left (field_is s) b post k)

  -- inside a field
  pub leaf_inside : (pre : List Stand) (role : Role) (path around : List ℕ) (align : ℕ) (form : Form) (b post : List Stand) → At root tree sound pre role path around (node align form) (b ++ post) → (rest : Option NumLeaf) (s : ℕ) → (has_field s b ≡ false → rest ≡ None) → has_field s (form_nodes path around form) ≡ true
      → slots.is_slot (slot_here role) s (number_leaf (node align form)) (first_of_two (form_leaf form s) rest) ≡ form_leaf form s
  leaf_inside pre role path around align form b post p rest s none h =
      passed (slot_here role) s (number_leaf (node align form)) (first_of_two (form_leaf form s) rest) (here_not pre role path around align form (b ++ post) p s h)
      ∙ second_gone (form_leaf form s) rest (none (false_from_ne_true (has_field s b) (λ q. not_behind pre role path around (node align form) b post p s (or_right (is_slot s (slot_here role)) (has_field s (form_nodes path around form)) h) q)))

  -- inside an alternative
  pub leaf_in_case : (pre : List Stand) (role : Role) (path around : List ℕ) (align : ℕ) (form : Form) (b post : List Stand) → At root tree sound pre role path around (node align form) (b ++ post) → (rest : Option NumLeaf) (s : ℕ) → (has_field s b ≡ false → rest ≡ None) → has_field s (form_nodes path around form) ≡ true
      → first_of_two (form_leaf form s) rest ≡ form_leaf form s
  leaf_in_case pre role path around align form b post p rest s none h =
      second_gone (form_leaf form s) rest (none (false_from_ne_true (has_field s b) (λ q. not_behind pre role path around (node align form) b post p s (or_right (is_slot s (slot_here role)) (has_field s (form_nodes path around form)) h) q)))

  -- behind a field, and behind an alternative
  none_before : (pre : List Stand) (role : Role) (path around : List ℕ) (g : Grammar) (b post : List Stand) → At root tree sound pre role path around g (b ++ post) → (s : ℕ) → has_field s b ≡ true → has_field s (nodes role path around g) ≡ false
  none_before pre role path around g b post p s h = false_from_ne_true (has_field s (nodes role path around g)) (λ q. not_behind pre role path around g b post p s q h)

  pub leaf_behind_case : (pre : List Stand) (role : Role) (path around : List ℕ) (g : Grammar) (b post : List Stand) → At root tree sound pre role path around g (b ++ post) → (rest : Option NumLeaf) (s : ℕ) → has_field s b ≡ true → first_of_two (slot_leaf g s) rest ≡ rest
  leaf_behind_case pre role path around g b post p rest s h = first_gone (slot_leaf g s) rest (no_node_leaf g role path around s (none_before pre role path around g b post p s h))

  pub leaf_behind : (pre : List Stand) (role : Role) (path around : List ℕ) (g : Grammar) (b post : List Stand) → At root tree sound pre role path around g (b ++ post) → (rest : Option NumLeaf) (s : ℕ) → has_field s b ≡ true
      → slots.is_slot (slot_here role) s (number_leaf g) (first_of_two (slot_leaf g s) rest) ≡ rest
  leaf_behind pre role path around g b post p rest s h =
      passed (slot_here role) s (number_leaf g) (first_of_two (slot_leaf g s) rest) (false_from_ne_true (is_slot s (slot_here role)) (λ q. not_behind pre role path around g b post p s (slot_in role path around g s q) h))
      ∙ leaf_behind_case pre role path around g b post p rest s h

  -- the field itself
  pub leaf_of_field : (role : Role) (g : Grammar) (rest : Option NumLeaf) (s : ℕ) → is_slot s (slot_here role) ≡ true → slots.is_slot (slot_here role) s (number_leaf g) rest ≡ number_leaf g
  leaf_of_field role g rest s h = taken (slot_here role) s (number_leaf g) rest h

  -- the nodes below a node
  abbrev pub below : (path around : List ℕ) → Grammar → List Stand
  below path around (node align form) = form_nodes path around form

  pub leafed_one : (role : Role) (path around : List ℕ) (g : Grammar) (leaf : ℕ → Option NumLeaf) → Leafed (nodes role path around g) leaf → Leafed (below path around g) leaf
  leafed_one role path around (node align form) leaf leafed s h = leafed s (or_right (is_slot s (slot_here role)) (has_field s (form_nodes path around form)) h)

  pub leafed_first : (pre : List Stand) (role : Role) (path around : List ℕ) (g : Grammar) (b post : List Stand) → At root tree sound pre role path around g (b ++ post) → (rest : ℕ → Option NumLeaf) → ((s : ℕ) → has_field s b ≡ false → rest s ≡ None)
      → Leafed (nodes role path around g ++ b) (λ s. slots.is_slot (slot_here role) s (number_leaf g) (first_of_two (slot_leaf g s) (rest s))) → Leafed (below path around g) (slot_leaf g)
  leafed_first pre role path around (node align form) b post p rest none leafed s h =
      leafed s (any_left (field_is s) (nodes role path around (node align form)) b (or_right (is_slot s (slot_here role)) (has_field s (form_nodes path around form)) h))
      ∙ leaf_inside pre role path around align form b post p (rest s) s (none s) h

  pub leafed_next : (pre : List Stand) (role : Role) (path around : List ℕ) (g : Grammar) (b post : List Stand) → At root tree sound pre role path around g (b ++ post) → (rest : ℕ → Option NumLeaf)
      → Leafed (nodes role path around g ++ b) (λ s. slots.is_slot (slot_here role) s (number_leaf g) (first_of_two (slot_leaf g s) (rest s))) → Leafed b rest
  leafed_next pre role path around g b post p rest leafed s h =
      leafed s (any_right (field_is s) (nodes role path around g) b h) ∙ leaf_behind pre role path around g b post p (rest s) s h

  pub leafed_case : (pre : List Stand) (role : Role) (path around : List ℕ) (g : Grammar) (b post : List Stand) → At root tree sound pre role path around g (b ++ post) → (rest : ℕ → Option NumLeaf) → ((s : ℕ) → has_field s b ≡ false → rest s ≡ None)
      → Leafed (nodes role path around g ++ b) (λ s. first_of_two (slot_leaf g s) (rest s)) → Leafed (below path around g) (slot_leaf g)
  leafed_case pre role path around (node align form) b post p rest none leafed s h =
      leafed s (any_left (field_is s) (nodes role path around (node align form)) b (or_right (is_slot s (slot_here role)) (has_field s (form_nodes path around form)) h))
      ∙ leaf_in_case pre role path around align form b post p (rest s) s (none s) h

  pub leafed_next_case : (pre : List Stand) (role : Role) (path around : List ℕ) (g : Grammar) (b post : List Stand) → At root tree sound pre role path around g (b ++ post) → (rest : ℕ → Option NumLeaf)
      → Leafed (nodes role path around g ++ b) (λ s. first_of_two (slot_leaf g s) (rest s)) → Leafed b rest
  leafed_next_case pre role path around g b post p rest leafed s h =
      leafed s (any_right (field_is s) (nodes role path around g) b h) ∙ leaf_behind_case pre role path around g b post p (rest s) s h

  -- the leaf of the slot that a field says
  pub leafed_here : (role : Role) (path around : List ℕ) (g : Grammar) (b : List Stand) (rest : ℕ → Option NumLeaf) (s : ℕ) → is_slot s (slot_here role) ≡ true
      → Leafed (nodes role path around g ++ b) (λ t. slots.is_slot (slot_here role) t (number_leaf g) (rest t)) → slot_leaf root s ≡ number_leaf g
  leafed_here role path around g b rest s h leafed =
      leafed s (any_left (field_is s) (nodes role path around g) b (slot_in role path around g s h)) ∙ leaf_of_field role g (rest s) s h
