-- Which grammars are well formed. Every rule is a test that computes. That names in one place differ is X.680's (clauses 20, 25
-- and 29); the rules on slots, homes and limits are this profile's own.
use Rattle.std.specs.Prelude.{ℕ, ◌-◌, nat_eq, nat_lt, nat_le, Bool, true, false, not, ◌&&◌, ◌||◌, IsTrue, List, [], ◌∷◌, ◌++◌, length, map, filter, count_by, Option, Some, None}
use Rattle.std.specs.List.{list_all, list_any, filter_map, range_with_len}
use Rattle.acn_num.specs.Bits.{is_least_width}
use Rattle.acn_grammar.specs.Grammar.{Grammar, Form, Fields, node, num, octets, bits, text, seq, list, choice, contained, no_fields, component, inserted}
use Rattle.acn_grammar.specs.Asks.{same_name}
use Rattle.acn_grammar.specs.Leaves.{num_fine, text_fine, sizing_fine, list_fine, all_differ}
use Rattle.acn_grammar.specs.Walk.{Stand, Role, a_component, an_inserted, nodes_of, inside, uses, slot_of, slot_here, conditions_of}
use Rattle.acn_grammar.specs.declared.node.NumKind.{NumKind}
use Rattle.acn_grammar.specs.declared.node.NumKind.TheVariants.{Null}
use Rattle.acn_grammar.specs.declared.node.ChoiceRule.{ChoiceRule}
use Rattle.acn_grammar.specs.declared.node.ChoiceRule.TheVariants.{Index, Tests, Item}
use Rattle.acn_grammar.specs.declared.node.Presence.{Presence}
use Rattle.acn_grammar.specs.declared.node.Presence.TheVariants.{Always, Bit, When}
use Rattle.acn_grammar.specs.declared.node.Test.{Test}
use Rattle.acn_grammar.specs.declared.limits.TheConstants.{MOST_NODES}
use Rattle.acn_num.specs.declared.limits.TheConstants.{MOST_STEPS}

-- The rules of one node.

abbrev pub is_align : ℕ → Bool
is_align n = nat_eq n 1 || (nat_eq n 8 || (nat_eq n 16 || nat_eq n 32))

abbrev pub field_names : Fields → List (List ℕ)
field_names no_fields = []
field_names (component name g presence default own fs) = name ∷ field_names fs
field_names (inserted name g slot fs) = name ∷ field_names fs

abbrev pub has_tests : (List ℕ × List Test) → Bool
has_tests c = nat_lt 0 (length c.1)

-- the index form exactly where no alternative has a condition and no slot decides
abbrev pub choice_rule_fine : List (List ℕ × List Test) → ChoiceRule → Bool
choice_rule_fine cases (Index width) = is_least_width (length cases - 1) width && not (list_any has_tests cases)
choice_rule_fine cases Tests = list_any has_tests cases
choice_rule_fine cases (Item s) = true

abbrev pub choice_fine : List (List ℕ × List Test) → ChoiceRule → Bool
choice_fine cases rule = nat_lt 0 (length cases) && (all_differ same_name (map (λ c. c.0) cases) && choice_rule_fine cases rule)

abbrev pub form_fine : Form → Bool
form_fine (num leaf) = num_fine leaf
form_fine (octets sizing) = sizing_fine sizing
form_fine (bits sizing) = sizing_fine sizing
form_fine (text leaf) = text_fine leaf
form_fine (seq fields home) = all_differ same_name (field_names fields)
form_fine (list sizing g) = list_fine sizing
form_fine (choice cases rule) = choice_fine (conditions_of cases) rule
form_fine (contained sizing g) = sizing_fine sizing

abbrev pub presence_fine : Presence → Bool
presence_fine (When ts) = nat_lt 0 (length ts)
presence_fine _ = true

-- a number leaf has a slot where it is inserted, and a NULL has none
abbrev pub kind_inserted : NumKind → Option ℕ → Bool
kind_inserted Null None = true
kind_inserted Null (Some s) = false
kind_inserted _ None = false
kind_inserted _ (Some s) = true

abbrev pub inserted_fine : Option ℕ → Form → Bool
inserted_fine slot (num leaf) = kind_inserted leaf.kind slot
inserted_fine slot _ = false

-- a component with a slot is always there, and is an INTEGER, BOOLEAN or ENUMERATED
abbrev pub own_fine : Option ℕ → Presence → Form → Bool
own_fine None presence form = true
own_fine (Some s) Always form = inserted_fine (Some s) form
own_fine (Some s) Bit form = false
own_fine (Some s) (When ts) form = false

abbrev pub role_fine : Role → Form → Bool
role_fine (a_component one) form = presence_fine one.presence && own_fine one.slot one.presence form
role_fine (an_inserted name slot) form = inserted_fine slot form
role_fine _ form = true

-- Slots.

abbrev pub holds : List ℕ → ℕ → Bool
holds [] s = false
holds (t ∷ ts) s = nat_eq t s || holds ts s

abbrev pub same_numbers : List ℕ → List ℕ → Bool
same_numbers = same_name

-- every use names a slot at home in an enclosing SEQUENCE
abbrev pub names_open : Stand → Bool
names_open at = list_all (holds at.around) (map slot_of (uses at))

-- the slots in preorder of their fields
abbrev pub slots_of : List Stand → List ℕ
slots_of nodes = filter_map (λ at. slot_here at.role) nodes

-- how many of the nodes are the field of the slot or use it
abbrev pub is_slot : ℕ → Option ℕ → Bool
is_slot s None = false
is_slot s (Some t) = nat_eq t s

abbrev pub is_about : ℕ → Stand → Bool
is_about s at = is_slot s (slot_here at.role) || list_any (nat_eq s) (map slot_of (uses at))

-- the slot of a component has a use: another node is about it
abbrev pub slot_used : List Stand → Option ℕ → Bool
slot_used all None = true
slot_used all (Some s) = nat_lt 1 (count_by (is_about s) all)

abbrev pub own_used : List Stand → Role → Bool
own_used all (a_component one) = slot_used all one.slot
own_used all _ = true

abbrev pub is_seq : Form → Bool
is_seq (seq _ home) = true
is_seq _ = false

-- a SEQUENCE inside which the slot's field and all its uses are
abbrev pub encloses : List Stand → ℕ → Stand → Bool
encloses all s at = is_seq at.form && nat_eq (count_by (is_about s) (inside at)) (count_by (is_about s) all)

-- and there is none such inside it
abbrev pub is_home : List Stand → ℕ → Stand → Bool
is_home all s at = encloses all s at && not (list_any (encloses all s) (inside at))

abbrev pub near_if : Presence → List ℕ → List ℕ
near_if Always ss = ss
near_if Bit ss = []
near_if (When ts) ss = []

abbrev pub slot_list : Option ℕ → List ℕ
slot_list None = []
slot_list (Some s) = s ∷ []

-- the slots whose fields stand in a SEQUENCE itself, or in SEQUENCEs that are always there
abbrev mutual
  pub near : Fields → List ℕ
  near no_fields = []
  near (component name g presence default own fs) = slot_list own ++ (near_if presence (near_node g) ++ near fs)
  near (inserted name g None fs) = near fs
  near (inserted name g (Some s) fs) = s ∷ near fs

  pub near_node : Grammar → List ℕ
  near_node (node align form) = near_form form

  pub near_form : Form → List ℕ
  near_form (seq fields home) = near fields
  near_form _ = []

-- it lists the slots at home here in ascending order, each once, and nothing that may be absent stands between
abbrev pub home_fine : List Stand → Stand → Form → Bool
home_fine all at (seq fields home) = same_numbers home (filter (λ s. is_home all s at) (slots_of all)) && list_all (holds (near fields)) home
home_fine all at _ = true

abbrev pub stand_rules : List Stand → Stand → List Bool
stand_rules all at =
    nat_le (length at.path) MOST_STEPS
    ∷ is_align at.align
    ∷ form_fine at.form
    ∷ role_fine at.role at.form
    ∷ own_used all at.role
    ∷ names_open at
    ∷ home_fine all at at.form
    ∷ []

abbrev pub all_true : List Bool → Bool
all_true tests = list_all (λ b. b) tests

-- not too many nodes, the slots numbered in preorder from 0, and every node in order
abbrev pub are_fine : List Stand → Bool
are_fine all =
    nat_le (length all) MOST_NODES
    && (same_numbers (slots_of all) (range_with_len 0 (length (slots_of all)))
    && list_all (λ at. all_true (stand_rules all at)) all)

abbrev pub is_tree : Grammar → Bool
is_tree root = are_fine (nodes_of root)

abbrev pub IsTree : Grammar → Type 0
IsTree root = IsTrue (is_tree root)
