-- Each value that is made has the form of its node, and breaks no constraint but that of a terminator.
use Rattle.std.proofs.Common.{◌≡◌, ℕ, zero, suc, ◌<◌, ◌≤◌, ℤ, pos, negsuc, ◌≤ℤ◌, ◌<ℤ◌, Bool, true, false, not, List, [], ◌∷◌, ◌++◌, length, Option, Some, None, refl, ap, ◌∙◌, arith, nat_lt, nat_eq, nat_abs, cond}
use Rattle.std.specs.Prelude.{if◌then◌else◌, position}
use Rattle.std.specs.List.{list_all, position_or_len}
use Rattle.std.specs.Ordering.{int_eq}
use Rattle.std.proofs.Math.Nat.{mod-lt}
use Rattle.std.proofs.lemmas.Bool.Decides.{nat_tests}
use Rattle.std.proofs.lemmas.Int.{ints}
use Rattle.std.proofs.lemmas.List.Folds.{list_all-append}
use Rattle.acn_num.specs.Ranges.{has}
use Rattle.acn_tree.specs.CanDraw.{CanDraw, FormCanDraw, FieldsCanDraw, AlternativesCanDraw}
use Rattle.acn_grammar.specs.Grammar.{Grammar, Form, Fields, Alternatives, Data, node, num, octets, bits, text, seq, list, choice, contained, no_fields, component, inserted, no_alternatives, alternative, boolean, element_count, empty, filled}
use Rattle.acn_grammar.specs.Leaves.{set_fine, sizes_fine, is_range, no_items}
use Rattle.acn_grammar.specs.Length.{number_of}
use Rattle.acn_tree.specs.Made.{Drawn, after, is, parts, pick, size, number, number_data, elements, made, form_made, fields_made, presence, alternative_count, alternative_made}
use Rattle.acn_tree.specs.MadeMeets.{is_end_inside, EachMadeValueMeets}
use Rattle.acn_grammar.specs.Meets.{Why, Unfit, unless, where_found, size_breach, first_end, end_breach, text_breach, at_path, run_breaches, breaches, form_breaches, field_breaches, alternative_breaches, out_of_range, size_out_of_range, bad_character, terminator_inside}
use Rattle.acn_grammar.specs.Shaped.{may_be_absent, num_fits, are_octets, each_element, fits, form_fits, fields_fit, alternative_fits}
use Rattle.acn_grammar.specs.Spell.{octet_numbers}
use Rattle.acn_grammar.specs.declared.node.Items.{Items}
use Rattle.acn_grammar.specs.declared.node.NumCoding.{NumCoding}
use Rattle.acn_grammar.specs.declared.node.NumKind.{NumKind}
use Rattle.acn_grammar.specs.declared.node.NumKind.TheVariants.{Integer, Boolean, Enumerated, Null}
use Rattle.acn_grammar.specs.declared.node.Presence.{Presence}
use Rattle.acn_grammar.specs.declared.node.Presence.TheVariants.{Always, Bit, When}
use Rattle.acn_grammar.specs.declared.node.Sizing.{Sizing}
use Rattle.acn_grammar.specs.declared.node.Table.{Table}
use Rattle.acn_grammar.specs.declared.node.TextLeaf.{TextLeaf}
use Rattle.acn_tree.proofs.CanDrawLaw.{tree_can_draw}
use Rattle.acn_tree.proofs.Drawn.{number_in, leaf_set, item_small, one_range, sizes_are, size_in, size_small, size_number, alphabet_is, character_small}
use Rattle.acn_grammar.proofs.FineLeaves.{rules_of}
use Rattle.std.proofs.lemmas.Bool.{lt-ltb, and_parts}
use Rattle.acn_grammar.proofs.RangeEnds.{lies_within}

-- Parts.

-- what each part keeps, all keep
parts_keep : {A : Type 0} (p : A → Bool) (each : ℕ → Drawn A) → ((t : ℕ) → p (each t).value ≡ true) → (n s : ℕ) → list_all p (parts each n s).value ≡ true
parts_keep p each h zero s = refl
parts_keep p each h (suc n) s = rw (h s) (parts_keep p each h n (each s).state)

parts_length : {A : Type 0} (each : ℕ → Drawn A) (n s : ℕ) → length (parts each n s).value ≡ n
parts_length each zero s = refl
parts_length each (suc n) s = ap suc (parts_length each n (each s).state)

elements_keep : (p : Data → Bool) (each : ℕ → Drawn Data) → ((t : ℕ) → p (each t).value ≡ true) → (n s : ℕ) → each_element p (elements each n s).value ≡ true
elements_keep p each h zero s = refl
elements_keep p each h (suc n) s = rw (h s) (elements_keep p each h n (each s).state)

elements_length : (each : ℕ → Drawn Data) (n s : ℕ) → element_count (elements each n s).value ≡ n
elements_length each zero s = refl
elements_length each (suc n) s = ap suc (elements_length each n (each s).state)

octets_small : (os : List ℕ) → list_all (λ o. nat_lt o 256) os ≡ true → are_octets os ≡ true
octets_small [] h = refl
octets_small (o ∷ os) h =
    let b = and_parts (nat_lt o 256) (list_all (λ x. nat_lt x 256) os) h in
    rw b.0 (octets_small os b.1)

small_character : (x : ℤ) → pos 0 ≤ℤ x → x ≤ℤ pos 127 → nat_lt (nat_abs x) 256 ≡ true
small_character x h k = lt-ltb (nat_abs x) 256 (omega (arith, ints))

natural_is : (x : ℤ) → pos 0 ≤ℤ x → pos (nat_abs x) ≡ x
natural_is x h = omega (arith, ints)

-- Numbers.

number_shaped : (kind : NumKind) (coding : NumCoding) (items : Items) (table : Option Table) (set : List (ℤ × ℤ)) (s : ℕ) → set_fine kind coding items table set ≡ true
    → num_fits kind (length items.items) (number_data kind (number set s).value) ≡ true
number_shaped Integer coding items table set s h = refl
number_shaped Boolean coding items table set s h = refl
number_shaped Null coding items table set s h = refl
number_shaped Enumerated coding items table set s h =
    let k = item_small coding items table set s h in
    lt-ltb (nat_abs (number set s).value) (length items.items) (small (number set s).value (length items.items) k.0 k.1)
  where
    small : (x : ℤ) (n : ℕ) → pos 0 ≤ℤ x → x <ℤ pos n → nat_abs x < n
    small x n h k = omega (arith, ints)

bit_number : (x : ℤ) → pos 0 ≤ℤ x → x ≤ℤ pos 1 → number_of (boolean (int_eq x (pos 1))) ≡ x
bit_number (pos zero) h k = refl
bit_number (pos (suc zero)) h k = refl
bit_number (pos (suc (suc n))) h k = absurd (omega (arith, ints))
bit_number (negsuc n) h k = absurd (omega (arith, ints))

-- the number of the value is the one that was drawn
number_back : (kind : NumKind) (coding : NumCoding) (items : Items) (table : Option Table) (set : List (ℤ × ℤ)) (s : ℕ) → set_fine kind coding items table set ≡ true
    → number_of (number_data kind (number set s).value) ≡ (number set s).value
number_back Integer coding items table set s h = refl
number_back Boolean coding items table set s h =
    let o = one_range (pos 0) (pos 1) set (omega (arith, ints)) (and_parts (is_range (pos 0) (pos 1) set) (no_items items) h).0 in
    let w = lies_within set (pos 0) (pos 1) (number set s).value o.within (number_in set s o.ranges o.some) in
    bit_number (number set s).value w.0 w.1
number_back Null coding items table set s h =
    let o = one_range (pos 0) (pos 0) set (omega (arith, ints)) (and_parts (is_range (pos 0) (pos 0) set) (no_items items) h).0 in
    let w = lies_within set (pos 0) (pos 0) (number set s).value o.within (number_in set s o.ranges o.some) in
    zero_is (number set s).value w.0 w.1
  where
    zero_is : (x : ℤ) → pos 0 ≤ℤ x → x ≤ℤ pos 0 → pos 0 ≡ x
    zero_is x h k = omega (arith, ints)
number_back Enumerated coding items table set s h = natural_is (number set s).value (item_small coding items table set s h).0

-- The form of the value.

component_fits : (there : Bool) (t : ℕ) (name : List ℕ) (g : Grammar) (p : Presence) (default : Option (List ℕ)) (own : Option ℕ) (fs : Fields) → (there ≡ false → may_be_absent p ≡ true)
    → ((u : ℕ) → fits g (made g u).value ≡ true) → ((u : ℕ) → fields_fit fs (fields_made fs u).value ≡ true)
    → fields_fit (component name g p default own fs) (if there then after (made g t) (λ d u. is (filled d) (fields_made fs u)) else is empty (fields_made fs t)).value ≡ true
component_fits true t name g p default own fs away one more = rw (one t) (more (made g t).state)
component_fits false t name g p default own fs away one more = rw (away refl) (more t)

away_fits : (p : Presence) (s : ℕ) → (presence p s).value ≡ false → may_be_absent p ≡ true
away_fits Always s h = cc
away_fits Bit s h = refl
away_fits (When tests) s h = refl

mutual
  shaped_node : (g : Grammar) (s : ℕ) → CanDraw g → fits g (made g s).value ≡ true
  shaped_node (node align form) s h = shaped_form form s h

  shaped_form : (form : Form) (s : ℕ) → FormCanDraw form → form_fits form (form_made form s).value ≡ true
  shaped_form (num leaf) s h = number_shaped leaf.kind leaf.coding leaf.items leaf.table leaf.set s (rules_of leaf h).set
  shaped_form (octets sizing) s h =
      let n = size sizing.sizes s in
      octets_small (parts (pick 256) n.value n.state).value (parts_keep (λ o. nat_lt o 256) (pick 256) (λ t. lt-ltb (pick 256 t).value 256 (mod-lt _ (omega arith))) n.value n.state)
  shaped_form (bits sizing) s h = refl
  shaped_form (text leaf) s h =
      let n = size leaf.sized.sizes s in
      let a = (alphabet_is leaf h).1 in
      octets_small (parts (λ t. is nat_abs (number leaf.alphabet t)) n.value n.state).value
      (parts_keep (λ o. nat_lt o 256) (λ t. is nat_abs (number leaf.alphabet t)) (λ t. let k = character_small leaf.alphabet t a in small_character (number leaf.alphabet t).value k.0 k.1) n.value n.state)
  shaped_form (seq fields home) s h = shaped_fields fields s h
  shaped_form (list sizing g) s h = let n = size sizing.sizes s in elements_keep (fits g) (made g) (λ t. shaped_node g t h.1) n.value n.state
  shaped_form (choice cases rule) s h = let i = pick (alternative_count cases) s in shaped_alternative cases i.value i.state (mod-lt _ h.0) h.2
  shaped_form (contained sizing g) s h = shaped_node g s h

  shaped_fields : (fs : Fields) (s : ℕ) → FieldsCanDraw fs → fields_fit fs (fields_made fs s).value ≡ true
  shaped_fields no_fields s h = refl
  shaped_fields (component name g p default own fs) s h = component_fits (presence p s).value (presence p s).state name g p default own fs (away_fits p s) (λ u. shaped_node g u h.0) (λ u. shaped_fields fs u h.1)
  shaped_fields (inserted name g slot fs) s h = shaped_fields fs s h

  shaped_alternative : (cases : Alternatives) (i s : ℕ) → i < alternative_count cases → AlternativesCanDraw cases → alternative_fits cases i (alternative_made cases i s).value ≡ true
  shaped_alternative no_alternatives i s k h = absurd (omega arith)
  shaped_alternative (alternative name g tests more) zero s k h = shaped_node g s h.0
  shaped_alternative (alternative name g tests more) (suc i) s k h = shaped_alternative more i s (omega arith) h.1

-- What it breaks.

abbrev ends_only : List Unfit → Bool
ends_only us = list_all (λ (u : Unfit). is_end_inside u.why) us

abbrev Ends : List Unfit → Type 0
Ends us = ends_only us ≡ true

both_end : (us vs : List Unfit) → Ends us → Ends vs → Ends (us ++ vs)
both_end us vs h k = list_all-append (λ (u : Unfit). is_end_inside u.why) us vs ∙ rw (h, k) refl

whys_end : (path : List ℕ) (whys : List Why) → list_all is_end_inside whys ≡ true → Ends (at_path path whys)
whys_end path [] h = refl
whys_end path (why ∷ whys) h =
    let b = and_parts (is_end_inside why) (list_all is_end_inside whys) h in
    rw b.0 (whys_end path whys b.1)

no_breach : (b : Bool) (why : Why) → b ≡ true → list_all is_end_inside (unless b why) ≡ true
no_breach b why h = rw h refl

size_ends : (sizing : Sizing) (n s : ℕ) → sizes_fine sizing.sizes ≡ true → n ≡ (size sizing.sizes s).value → list_all is_end_inside (size_breach sizing n) ≡ true
size_ends sizing n s h e =
    let k = size_small sizing.sizes s h in
    let m = size_in sizing.sizes s (sizes_are sizing.sizes h) in
    let same : pos n ≡ size_number sizing.sizes s = ap (λ x. pos x) e ∙ natural_is (size_number sizing.sizes s) k.0 in
    no_breach (has sizing.sizes (pos n)) (size_out_of_range n) (ap (has sizing.sizes) same ∙ m)

ends_found : (o : Option ℕ) → list_all is_end_inside (where_found o terminator_inside) ≡ true
ends_found None = refl
ends_found (Some i) = refl

end_ends : (end : Option (List Bool)) (cs : List ℕ) → list_all is_end_inside (end_breach end cs) ≡ true
end_ends None cs = refl
end_ends (Some end) cs = ends_found (first_end (octet_numbers end) cs)

none_out : (p : ℕ → Bool) (cs : List ℕ) → list_all (λ c. not (p c)) cs ≡ true → position p cs ≡ None
none_out p cs h = by_place (position_or_len p cs) (length cs) (past p cs h)
  where
    past : (p : ℕ → Bool) (cs : List ℕ) → list_all (λ c. not (p c)) cs ≡ true → length cs ≤ position_or_len p cs
    past p [] h = omega arith
    past p (c ∷ cs) h =
        let b = and_parts (not (p c)) (list_all (λ x. not (p x)) cs) h in
        let more = past p cs b.1 in
        rw b.0 (omega arith)

    by_place : (i n : ℕ) → n ≤ i → cond (nat_lt i n) (Some i) None ≡ None
    by_place i n h = rw (no_less i n h) refl
      where
        no_less : (i n : ℕ) → n ≤ i → nat_lt i n ≡ false
        no_less i n h = grind (arith, nat_tests)

not_twice : (b : Bool) → not (not b) ≡ b
not_twice true = refl
not_twice false = refl

text_ends : (leaf : TextLeaf) (cs : List ℕ) (s : ℕ) → sizes_fine leaf.sized.sizes ≡ true → length cs ≡ (size leaf.sized.sizes s).value → list_all (λ c. not (not (has leaf.alphabet (pos c)))) cs ≡ true
    → list_all is_end_inside (text_breach leaf cs) ≡ true
text_ends leaf cs s h e k =
    let a = size_breach leaf.sized (length cs) in
    let b = where_found (position (λ c. not (has leaf.alphabet (pos c))) cs) bad_character in
    let c = end_breach leaf.ended cs in
    let none : list_all is_end_inside b ≡ true = rw (none_out (λ c. not (has leaf.alphabet (pos c))) cs k) refl in
    list_all-append is_end_inside (a ++ b) c ∙ rw (list_all-append is_end_inside a b, size_ends leaf.sized (length cs) s h e, none, end_ends leaf.ended cs) refl

run_ends : (path : List ℕ) (g : Grammar) (each : ℕ → Drawn Data) → ((k t : ℕ) → Ends (breaches (path ++ k ∷ []) g (each t).value)) → (n k s : ℕ)
    → Ends (run_breaches (λ k d. breaches (path ++ k ∷ []) g d) k (elements each n s).value)
run_ends path g each h zero k s = refl
run_ends path g each h (suc n) k s = both_end (breaches (path ++ k ∷ []) g (each s).value) _ (h k s) (run_ends path g each h n (suc k) (each s).state)

component_ends : (there : Bool) (t : ℕ) (path : List ℕ) (k : ℕ) (name : List ℕ) (g : Grammar) (p : Presence) (default : Option (List ℕ)) (own : Option ℕ) (fs : Fields)
    → ((u : ℕ) → Ends (breaches (path ++ k ∷ []) g (made g u).value)) → ((u : ℕ) → Ends (field_breaches path (suc k) fs (fields_made fs u).value))
    → Ends (field_breaches path k (component name g p default own fs) (if there then after (made g t) (λ d u. is (filled d) (fields_made fs u)) else is empty (fields_made fs t)).value)
component_ends true t path k name g p default own fs one more = both_end (breaches (path ++ k ∷ []) g (made g t).value) _ (one t) (more (made g t).state)
component_ends false t path k name g p default own fs one more = more t

mutual
  node_ends : (g : Grammar) (path : List ℕ) (s : ℕ) → CanDraw g → Ends (breaches path g (made g s).value)
  node_ends (node align form) path s h = form_ends form path s h

  form_ends : (form : Form) (path : List ℕ) (s : ℕ) → FormCanDraw form → Ends (form_breaches path form (form_made form s).value)
  form_ends (num leaf) path s h =
      let r = (rules_of leaf h).set in
      let x = (number leaf.set s).value in
      let l = leaf_set leaf.kind leaf.coding leaf.items leaf.table leaf.set r in
      let e = number_back leaf.kind leaf.coding leaf.items leaf.table leaf.set s r in
      let m = number_in leaf.set s l.1 l.0 in
      whys_end path (unless (has leaf.set (number_of (number_data leaf.kind x))) (out_of_range (number_of (number_data leaf.kind x))))
      (no_breach (has leaf.set (number_of (number_data leaf.kind x))) (out_of_range (number_of (number_data leaf.kind x))) (ap (has leaf.set) e ∙ m))
  form_ends (octets sizing) path s h =
      let n = size sizing.sizes s in
      whys_end path (size_breach sizing (length (parts (pick 256) n.value n.state).value)) (size_ends sizing _ s h (parts_length (pick 256) n.value n.state))
  form_ends (bits sizing) path s h =
      let n = size sizing.sizes s in
      let each : ℕ → Drawn Bool = λ t. is (nat_eq 1) (pick 2 t) in
      whys_end path (size_breach sizing (length (parts each n.value n.state).value)) (size_ends sizing _ s h (parts_length each n.value n.state))
  form_ends (text leaf) path s h =
      let n = size leaf.sized.sizes s in
      let a = alphabet_is leaf h in
      let each : ℕ → Drawn ℕ = λ t. is nat_abs (number leaf.alphabet t) in
      let cs = (parts each n.value n.state).value in
      let known = parts_keep (λ c. not (not (has leaf.alphabet (pos c)))) each
      (λ t. let k = character_small leaf.alphabet t a.1 in
      let same = natural_is (number leaf.alphabet t).value k.0 in
      not_twice (has leaf.alphabet (pos (nat_abs (number leaf.alphabet t).value))) ∙ (ap (has leaf.alphabet) same ∙ number_in leaf.alphabet t a.1.ranges a.1.some))
      n.value n.state in
      whys_end path (text_breach leaf cs) (text_ends leaf cs s a.0 (parts_length each n.value n.state) known)
  form_ends (seq fields home) path s h = field_ends fields path 0 s h
  form_ends (list sizing g) path s h =
      let n = size sizing.sizes s in
      both_end (at_path path (size_breach sizing (element_count (elements (made g) n.value n.state).value))) _
      (whys_end path (size_breach sizing (element_count (elements (made g) n.value n.state).value)) (size_ends sizing _ s h.0 (elements_length (made g) n.value n.state)))
      (run_ends path g (made g) (λ k t. node_ends g (path ++ k ∷ []) t h.1) n.value 0 n.state)
  form_ends (choice cases rule) path s h = let i = pick (alternative_count cases) s in alternative_ends cases path i.value i.value i.state h.2
  form_ends (contained sizing g) path s h = node_ends g (path ++ 0 ∷ []) s h

  field_ends : (fs : Fields) (path : List ℕ) (k s : ℕ) → FieldsCanDraw fs → Ends (field_breaches path k fs (fields_made fs s).value)
  field_ends no_fields path k s h = refl
  field_ends (component name g p default own fs) path k s h =
      component_ends (presence p s).value (presence p s).state path k name g p default own fs (λ u. node_ends g (path ++ k ∷ []) u h.0) (λ u. field_ends fs path (suc k) u h.1)
  field_ends (inserted name g slot fs) path k s h = field_ends fs path (suc k) s h

  alternative_ends : (cases : Alternatives) (path : List ℕ) (i j s : ℕ) → AlternativesCanDraw cases → Ends (alternative_breaches path i cases j (alternative_made cases j s).value)
  alternative_ends no_alternatives path i j s h = refl
  alternative_ends (alternative name g tests more) path i zero s h = node_ends g (path ++ i ∷ []) s h.0
  alternative_ends (alternative name g tests more) path i (suc j) s h = alternative_ends more path i j s h.1

pub made_meets : EachMadeValueMeets
made_meets root start tree =
    let can = tree_can_draw root tree in
    record { shaped = shaped_node root start can; others = node_ends root [] start can }
