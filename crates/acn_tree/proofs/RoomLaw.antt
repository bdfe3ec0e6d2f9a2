-- In a well-formed tree each path can be written down, and so it can below each of its nodes.
use Rattle.std.proofs.Common.{◌≡◌, ℕ, zero, suc, ◌+◌, ◌<◌, ◌≤◌, pos, Bool, true, List, [], ◌∷◌, ◌++◌, length, Option, Some, None, refl, sym, ap, subst, ◌∙◌, arith, nat_le, nat_lt, ◌&&◌, length-append}
use Rattle.std.specs.List.{list_all, range_with_len}
use Rattle.std.proofs.lemmas.Int.{ints}
use Rattle.acn_num.specs.Ranges.{are_ranges, all_within}
use Rattle.acn_grammar.specs.Grammar.{Grammar, Form, Fields, Alternatives, node, num, octets, bits, text, seq, list, choice, contained, no_fields, component, inserted, no_alternatives, alternative}
use Rattle.acn_grammar.specs.Leaves.{list_fine, list_rule_fine, sizes_fine}
use Rattle.acn_grammar.specs.Length.{ending}
use Rattle.acn_grammar.specs.Paths.{node_at, child, field_at, alternative_at, only, if_some}
use Rattle.acn_tree.specs.Room.{InTree, HasRoom, FormHasRoom, FieldsHaveRoom, AlternativesHaveRoom, SizesAreSmall, field_count}
use Rattle.acn_grammar.specs.Tree.{IsTree, form_fine, stand_rules, all_true, same_numbers, slots_of}
use Rattle.acn_grammar.specs.Walk.{Stand, Role, component_role, an_inserted, alternative_role, an_element, a_content, root_node, nodes, form_nodes, field_nodes, alternative_nodes, nodes_of}
use Rattle.acn_grammar.specs.declared.node.ChoiceRule.{ChoiceRule}
use Rattle.acn_grammar.specs.declared.node.Sizing.{Sizing}
use Rattle.acn_grammar.proofs.TreeRules.{stand_fine, list_all-append}
use Rattle.std.proofs.lemmas.Bool.{leb-true, and_parts}
use Rattle.acn_grammar.proofs.RangeEnds.{lies_within}

small_sizes : (sizing : Sizing) → list_fine sizing ≡ true → SizesAreSmall sizing
small_sizes sizing h n m =
    let a = and_parts (sizes_fine sizing.sizes) (list_rule_fine (ending sizing.rule) sizing) h in
    let b = and_parts (nat_lt 0 (length sizing.sizes)) (are_ranges sizing.sizes && all_within (pos 0) (pos 65536) sizing.sizes) a.0 in
    let c = and_parts (are_ranges sizing.sizes) (all_within (pos 0) (pos 65536) sizing.sizes) b.1 in
    let e = (lies_within sizing.sizes (pos 0) (pos 65536) (pos n) c.1 m).1 in
    omega (arith, ints)

one_longer : (path : List ℕ) (k : ℕ) → length (path ++ k ∷ []) ≡ suc (length path)
one_longer path k = length-append path (k ∷ []) ∙ one_more (length path)
  where
    one_more : (n : ℕ) → n + 1 ≡ suc n
    one_more n = omega arith

some_node : (role : Role) (path around : List ℕ) (g : Grammar) → 0 < length (nodes role path around g)
some_node role path around (node align form) = omega arith

count_fields : (path around : List ℕ) (k : ℕ) (fs : Fields) → field_count fs ≤ length (field_nodes path around k fs)
count_fields path around k no_fields = omega arith
count_fields path around k (component name g presence default own fs) =
    omega (arith, some_node (component_role name presence default own) (path ++ k ∷ []) around g, count_fields path around (suc k) fs, length-append (nodes (component_role name presence default own) (path ++ k ∷ []) around g) (field_nodes path around (suc k) fs))
count_fields path around k (inserted name g slot fs) =
    omega (arith, some_node (an_inserted name slot) (path ++ k ∷ []) around g, count_fields path around (suc k) fs, length-append (nodes (an_inserted name slot) (path ++ k ∷ []) around g) (field_nodes path around (suc k) fs))

module _ (all : List Stand) where
  abbrev passes : Stand → Bool
  passes at = all_true (stand_rules all at)

  mutual
    room_node : (g : Grammar) (role : Role) (path around : List ℕ) (m : ℕ) → m ≡ length path → list_all passes (nodes role path around g) ≡ true → length (nodes role path around g) ≤ 65536 → HasRoom m g
    room_node (node align form) role path around m e h n =
        let here : Stand = record { path = path; around = around; role = role; align = align; form = form } in
        let p = and_parts (passes here) (list_all passes (form_nodes path around form)) h in
        let s = stand_fine all here p.0 in
        let d = leb-true (length path) 64 s.depth in
        (omega arith, room_form form path around m e s.form p.1 (omega arith))

    room_form : (form : Form) (path around : List ℕ) (m : ℕ) → m ≡ length path → form_fine form ≡ true → list_all passes (form_nodes path around form) ≡ true → length (form_nodes path around form) ≤ 65536 → FormHasRoom m form
    room_form (num leaf) path around m e f h n = tt
    room_form (octets sizing) path around m e f h n = tt
    room_form (bits sizing) path around m e f h n = tt
    room_form (text leaf) path around m e f h n = tt
    room_form (seq fields home) path around m e f h n =
        let c = count_fields path (home ++ around) 0 fields in
        (omega arith, room_fields fields path (home ++ around) 0 m e h n)
    room_form (list sizing g) path around m e f h n = (small_sizes sizing f, room_node g an_element (path ++ 0 ∷ []) around (suc m) (ap suc e ∙ sym (one_longer path 0)) h n)
    room_form (choice cases rule) path around m e f h n = room_alternatives cases rule path around 0 m e h n
    room_form (contained sizing g) path around m e f h n = room_node g a_content (path ++ 0 ∷ []) around (suc m) (ap suc e ∙ sym (one_longer path 0)) h n

    room_fields : (fs : Fields) (path around : List ℕ) (k m : ℕ) → m ≡ length path → list_all passes (field_nodes path around k fs) ≡ true → length (field_nodes path around k fs) ≤ 65536 → FieldsHaveRoom (suc m) fs
    room_fields no_fields path around k m e h n = tt
    room_fields (component name g presence default own fs) path around k m e h n =
        let p = list_all-append passes (nodes (component_role name presence default own) (path ++ k ∷ []) around g) (field_nodes path around (suc k) fs) h in
        let l = length-append (nodes (component_role name presence default own) (path ++ k ∷ []) around g) (field_nodes path around (suc k) fs) in
        (room_node g (component_role name presence default own) (path ++ k ∷ []) around (suc m) (ap suc e ∙ sym (one_longer path k)) p.0 (omega arith), room_fields fs path around (suc k) m e p.1 (omega arith))
    room_fields (inserted name g slot fs) path around k m e h n =
        let p = list_all-append passes (nodes (an_inserted name slot) (path ++ k ∷ []) around g) (field_nodes path around (suc k) fs) h in
        let l = length-append (nodes (an_inserted name slot) (path ++ k ∷ []) around g) (field_nodes path around (suc k) fs) in
        (room_node g (an_inserted name slot) (path ++ k ∷ []) around (suc m) (ap suc e ∙ sym (one_longer path k)) p.0 (omega arith), room_fields fs path around (suc k) m e p.1 (omega arith))

    room_alternatives : (as' : Alternatives) (rule : ChoiceRule) (path around : List ℕ) (k m : ℕ) → m ≡ length path → list_all passes (alternative_nodes rule path around k as') ≡ true → length (alternative_nodes rule path around k as') ≤ 65536 → AlternativesHaveRoom (suc m) as'
    room_alternatives no_alternatives rule path around k m e h n = tt
    room_alternatives (alternative name g tests more) rule path around k m e h n =
        let p = list_all-append passes (nodes (alternative_role name tests rule) (path ++ k ∷ []) around g) (alternative_nodes rule path around (suc k) more) h in
        let l = length-append (nodes (alternative_role name tests rule) (path ++ k ∷ []) around g) (alternative_nodes rule path around (suc k) more) in
        (room_node g (alternative_role name tests rule) (path ++ k ∷ []) around (suc m) (ap suc e ∙ sym (one_longer path k)) p.0 (omega arith), room_alternatives more rule path around (suc k) m e p.1 (omega arith))

room_root : (root : Grammar) → IsTree root → HasRoom 0 root
room_root root h =
    let all = nodes_of root in
    let a = and_parts (nat_le (length all) 65536) (same_numbers (slots_of all) (range_with_len 0 (length (slots_of all))) && list_all (λ at. all_true (stand_rules all at)) all) h in
    let b = and_parts (same_numbers (slots_of all) (range_with_len 0 (length (slots_of all)))) (list_all (λ at. all_true (stand_rules all at)) all) a.1 in
    room_node all root root_node [] [] 0 refl b.1 (leb-true (length all) 65536 a.0)

-- with fewer steps before it there is room too
mutual
  fewer : (g : Grammar) (j k : ℕ) → j ≤ k → HasRoom k g → HasRoom j g
  fewer (node align form) j k l h = (let d = h.0 in omega arith, fewer_form form j k l h.1)

  fewer_form : (form : Form) (j k : ℕ) → j ≤ k → FormHasRoom k form → FormHasRoom j form
  fewer_form (num leaf) j k l h = tt
  fewer_form (octets sizing) j k l h = tt
  fewer_form (bits sizing) j k l h = tt
  fewer_form (text leaf) j k l h = tt
  fewer_form (seq fields home) j k l h = (h.0, fewer_fields fields (suc j) (suc k) (omega arith) h.1)
  fewer_form (list sizing g) j k l h = (h.0, fewer g (suc j) (suc k) (omega arith) h.1)
  fewer_form (choice cases rule) j k l h = fewer_alternatives cases (suc j) (suc k) (omega arith) h
  fewer_form (contained sizing g) j k l h = fewer g (suc j) (suc k) (omega arith) h

  fewer_fields : (fs : Fields) (j k : ℕ) → j ≤ k → FieldsHaveRoom k fs → FieldsHaveRoom j fs
  fewer_fields no_fields j k l h = tt
  fewer_fields (component name g presence default own fs) j k l h = (fewer g j k l h.0, fewer_fields fs j k l h.1)
  fewer_fields (inserted name g slot fs) j k l h = (fewer g j k l h.0, fewer_fields fs j k l h.1)

  fewer_alternatives : (as' : Alternatives) (j k : ℕ) → j ≤ k → AlternativesHaveRoom k as' → AlternativesHaveRoom j as'
  fewer_alternatives no_alternatives j k l h = tt
  fewer_alternatives (alternative name g tests more) j k l h = (fewer g j k l h.0, fewer_alternatives more j k l h.1)

pub some_is : (a b : Grammar) → Some a ≡ Some b → a ≡ b
some_is a b e = cc

room_field : (fs : Fields) (i k : ℕ) (h : Grammar) → FieldsHaveRoom k fs → field_at fs i ≡ Some h → HasRoom k h
room_field no_fields i k h r e = cc
room_field (component name g presence default own fs) zero k h r e = subst (HasRoom k) (some_is g h e) r.0
room_field (component name g presence default own fs) (suc i) k h r e = room_field fs i k h r.1 e
room_field (inserted name g slot fs) zero k h r e = subst (HasRoom k) (some_is g h e) r.0
room_field (inserted name g slot fs) (suc i) k h r e = room_field fs i k h r.1 e

room_alternative : (as' : Alternatives) (i k : ℕ) (h : Grammar) → AlternativesHaveRoom k as' → alternative_at as' i ≡ Some h → HasRoom k h
room_alternative no_alternatives i k h r e = cc
room_alternative (alternative name g tests more) zero k h r e = subst (HasRoom k) (some_is g h e) r.0
room_alternative (alternative name g tests more) (suc i) k h r e = room_alternative more i k h r.1 e

room_only : (g : Grammar) (i k : ℕ) (h : Grammar) → HasRoom k g → only g i ≡ Some h → HasRoom k h
room_only g zero k h r e = subst (HasRoom k) (some_is g h e) r
room_only g (suc i) k h r e = cc

room_child : (g : Grammar) (i k : ℕ) (h : Grammar) → HasRoom k g → child g i ≡ Some h → HasRoom (suc k) h
room_child (node align (num leaf)) i k h r e = cc
room_child (node align (octets sizing)) i k h r e = cc
room_child (node align (bits sizing)) i k h r e = cc
room_child (node align (text leaf)) i k h r e = cc
room_child (node align (seq fields home)) i k h r e = room_field fields i (suc k) h r.1.1 e
room_child (node align (list sizing g)) i k h r e = room_only g i (suc k) h r.1.1 e
room_child (node align (choice cases rule)) i k h r e = room_alternative cases i (suc k) h r.1 e
room_child (node align (contained sizing g)) i k h r e = room_only g i (suc k) h r.1 e

pub after_step : (o : Option Grammar) (step : Grammar → Option Grammar) (h : Grammar) (F : Type 0) → if_some o step ≡ Some h → ((inside : Grammar) → o ≡ Some inside → step inside ≡ Some h → F) → F
after_step None step h F e f = cc
after_step (Some inside) step h F e f = f inside refl e

room_path : (path : List ℕ) (g h : Grammar) → HasRoom 0 g → node_at g path ≡ Some h → HasRoom 0 h
room_path [] g h r e = subst (HasRoom 0) (some_is g h e) r
room_path (i ∷ path) g h r e = after_step (child g i) (λ inside. node_at inside path) h (HasRoom 0 h) e (λ inside c k. room_path path inside h (fewer inside 0 1 (omega arith) (room_child g i 0 inside r c)) k)

-- the node is one of a well-formed tree, so each path below it can be written down
pub room-in-tree : (g : Grammar) → InTree g → HasRoom 0 g
room-in-tree g t = room_path t.path t.root g (room_root t.root t.formed) t.leads
