-- How many nodes and items an accepted root has.
use Rattle.std.proofs.Common.{◌≡◌, ℕ, suc, ◌<◌, ◌≤◌, ◌^◌, Bool, true, false, List, [], ◌∷◌, ◌++◌, length, Option, Some, None, refl, ap, subst, arith, nat_eq, nat_lt, nat_le, ◌&&◌, length-append}
use Rattle.std.specs.List.{list_all, range_with_len}
use Rattle.std.proofs.lemmas.Bool.{and_parts}
use Rattle.std.proofs.lemmas.Bool.Decides.{nat_tests}
use Rattle.std.specs.Prelude.{if◌then◌else◌, option_map, unwrap_or}
use Rattle.acn_grammar.specs.Grammar.{Grammar, Form, Fields, Alternatives, node, num, octets, bits, text, seq, list, choice, contained, no_fields, component, inserted, no_alternatives, alternative}
use Rattle.acn_grammar.specs.ItemsNamed.{ItemsNamed, FormItemsNamed, FieldsItemsNamed, AlternativesItemsNamed, items_named, fields_items_named, alternatives_items_named}
use Rattle.acn_grammar.specs.Slots.{first_of_two, is_slot, number_leaf, slot_leaf, form_leaf, fields_leaf, alternatives_leaf, items_of}
use Rattle.acn_grammar.specs.Tree.{IsTree, same_numbers, slots_of, all_true, stand_rules}
use Rattle.acn_grammar.specs.Walk.{Role, nodes, form_nodes, field_nodes, alternative_nodes, nodes_of, root_node, component_role, an_inserted, alternative_role, an_element, a_content}
use Rattle.acn_grammar.specs.declared.node.ChoiceRule.{ChoiceRule}
use Rattle.acn_grammar.specs.declared.node.NumLeaf.{NumLeaf}
use Rattle.acn_grammar.specs.declared.limits.TheConstants.{MOST_NODES}
use Rattle.acn_plan.specs.Steps.{count_of, form_count, fields_count, cases_count}

-- Nodes.

mutual
  node_counts : (role : Role) (path around : List ℕ) (g : Grammar) → length (nodes role path around g) ≡ count_of g
  node_counts role path around (node align form) = ap suc (form_counts path around form)

  form_counts : (path around : List ℕ) (form : Form) → length (form_nodes path around form) ≡ form_count form
  form_counts path around (num leaf) = refl
  form_counts path around (octets sizing) = refl
  form_counts path around (bits sizing) = refl
  form_counts path around (text leaf) = refl
  form_counts path around (seq fs home) = field_counts path (home ++ around) 0 fs
  form_counts path around (list sizing g) = node_counts an_element (path ++ 0 ∷ []) around g
  form_counts path around (choice cases rule) = case_counts rule path around 0 cases
  form_counts path around (contained sizing g) = node_counts a_content (path ++ 0 ∷ []) around g

  field_counts : (path around : List ℕ) (k : ℕ) (fs : Fields) → length (field_nodes path around k fs) ≡ fields_count fs
  field_counts path around k no_fields = refl
  field_counts path around k (component name g presence default own fs) =
      omega (arith, length-append (nodes (component_role name presence default own) (path ++ k ∷ []) around g) (field_nodes path around (suc k) fs), node_counts (component_role name presence default own) (path ++ k ∷ []) around g, field_counts path around (suc k) fs)
  field_counts path around k (inserted name g slot fs) =
      omega (arith, length-append (nodes (an_inserted name slot) (path ++ k ∷ []) around g) (field_nodes path around (suc k) fs), node_counts (an_inserted name slot) (path ++ k ∷ []) around g, field_counts path around (suc k) fs)

  case_counts : (rule : ChoiceRule) (path around : List ℕ) (k : ℕ) (cs : Alternatives) → length (alternative_nodes rule path around k cs) ≡ cases_count cs
  case_counts rule path around k no_alternatives = refl
  case_counts rule path around k (alternative name g tests more) =
      omega (arith, length-append (nodes (alternative_role name tests rule) (path ++ k ∷ []) around g) (alternative_nodes rule path around (suc k) more), node_counts (alternative_role name tests rule) (path ++ k ∷ []) around g, case_counts rule path around (suc k) more)

pub few_nodes : (root : Grammar) → IsTree root → count_of root ≤ MOST_NODES
few_nodes root h =
    (let all = nodes_of root in
    let a = and_parts (nat_le (length all) 65536) (same_numbers (slots_of all) (range_with_len 0 (length (slots_of all))) && list_all (λ at. all_true (stand_rules all at)) all) h in
    let le : length all ≤ 65536 = grind (arith, nat_tests, a.0) in
    omega (arith, le, node_counts root_node [] [] root))

-- Items.

abbrev is_few : Option NumLeaf → Type 0
is_few o = (leaf : NumLeaf) → o ≡ Some leaf → length leaf.items.items < 2 ^ 32

from_two : (a b : Option NumLeaf) → is_few a → is_few b → is_few (first_of_two a b)
from_two None b f g = g
from_two (Some x) b f g = f

from_slot : (own : Option ℕ) (s : ℕ) (a b : Option NumLeaf) → is_few a → is_few b → is_few (is_slot own s a b)
from_slot None s a b f g = g
from_slot (Some t) s a b f g = one (nat_eq t s)
  where
    one : (here : Bool) → is_few (if here then a else b)
    one true = f
    one false = g

nothing : is_few None
nothing leaf e = absurd (cc)

one_few : (l : NumLeaf) → nat_lt (length l.items.items) (2 ^ 32) ≡ true → is_few (Some l)
one_few l h leaf e = (let same : l ≡ leaf = cc in let few : length l.items.items < 2 ^ 32 = grind (arith, nat_tests, h) in subst (λ (x : NumLeaf). length x.items.items < 2 ^ 32) same few)

number_few : (g : Grammar) → ItemsNamed g → is_few (number_leaf g)
number_few (node align (num l)) h = one_few l h
number_few (node align (octets sizing)) h = nothing
number_few (node align (bits sizing)) h = nothing
number_few (node align (text l)) h = nothing
number_few (node align (seq fs home)) h = nothing
number_few (node align (list sizing g)) h = nothing
number_few (node align (choice cases rule)) h = nothing
number_few (node align (contained sizing g)) h = nothing

mutual
  node_few : (g : Grammar) (s : ℕ) → ItemsNamed g → is_few (slot_leaf g s)
  node_few (node align form) s h = form_few form s h

  form_few : (form : Form) (s : ℕ) → FormItemsNamed form → is_few (form_leaf form s)
  form_few (num leaf) s h = nothing
  form_few (octets sizing) s h = nothing
  form_few (bits sizing) s h = nothing
  form_few (text leaf) s h = nothing
  form_few (seq fs home) s h = fields_few fs s h
  form_few (list sizing g) s h = node_few g s h
  form_few (choice cases rule) s h = cases_few cases s h
  form_few (contained sizing g) s h = node_few g s h

  fields_few : (fs : Fields) (s : ℕ) → FieldsItemsNamed fs → is_few (fields_leaf fs s)
  fields_few no_fields s h = nothing
  fields_few (component name g presence default own fs) s h =
      (let p = and_parts (items_named g) (fields_items_named fs) h in
      from_slot own s (number_leaf g) (first_of_two (slot_leaf g s) (fields_leaf fs s)) (number_few g p.0) (from_two (slot_leaf g s) (fields_leaf fs s) (node_few g s p.0) (fields_few fs s p.1)))
  fields_few (inserted name g slot fs) s h =
      (let p = and_parts (items_named g) (fields_items_named fs) h in
      from_slot slot s (number_leaf g) (first_of_two (slot_leaf g s) (fields_leaf fs s)) (number_few g p.0) (from_two (slot_leaf g s) (fields_leaf fs s) (node_few g s p.0) (fields_few fs s p.1)))

  cases_few : (cs : Alternatives) (s : ℕ) → AlternativesItemsNamed cs → is_few (alternatives_leaf cs s)
  cases_few no_alternatives s h = nothing
  cases_few (alternative name g tests more) s h =
      (let p = and_parts (items_named g) (alternatives_items_named more) h in
      from_two (slot_leaf g s) (alternatives_leaf more s) (node_few g s p.0) (cases_few more s p.1))

pub few_items : (root : Grammar) → ItemsNamed root → (s : ℕ) → length (items_of root s) < 2 ^ 32
few_items root h s = one (slot_leaf root s) (node_few root s h)
  where
    one : (o : Option NumLeaf) → is_few o → length (unwrap_or (option_map (λ leaf. leaf.items.items) o) []) < 2 ^ 32
    one None f = omega arith
    one (Some leaf) f = f leaf refl
