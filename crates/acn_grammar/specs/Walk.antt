-- The nodes of a grammar in preorder, where each stands, and which slots it uses. (This profile's own.)
use Rattle.std.specs.Prelude.{ℕ, suc, List, [], ◌∷◌, ◌++◌, Option, None, map}
use Rattle.acn_grammar.specs.Grammar.{Grammar, Form, Fields, Alternatives, node, octets, bits, text, seq, list, choice, contained, no_fields, component, inserted, no_alternatives, alternative}
use Rattle.acn_grammar.specs.declared.node.Presence.{Presence}
use Rattle.acn_grammar.specs.declared.node.Presence.TheVariants.{When}
use Rattle.acn_grammar.specs.declared.node.Test.{Test}
use Rattle.acn_grammar.specs.declared.node.Test.TheVariants.{Flag, Equals}
use Rattle.acn_grammar.specs.declared.node.SizeRule.{SizeRule}
use Rattle.acn_grammar.specs.declared.node.SizeRule.TheVariants.{Prefix, Slot, Ended}
use Rattle.acn_grammar.specs.declared.node.ChoiceRule.{ChoiceRule}
use Rattle.acn_grammar.specs.declared.node.ChoiceRule.TheVariants.{Item}

-- what a SEQUENCE says of one of its components, beside its node
pub record ComponentRole : Type 0 where
  pub name : List ℕ
  pub presence : Presence
  pub default : Option (List ℕ)
  pub slot : Option ℕ

-- what a CHOICE says of one of its alternatives, beside its node: its own conditions, and the rule by which one is chosen
pub record AlternativeRole : Type 0 where
  pub name : List ℕ
  pub tests : List Test
  pub rule : ChoiceRule

-- where a node stands in the one above it
pub data Role : Type 0 where
  root_node : Role
  a_component : ComponentRole → Role
  an_inserted : (name : List ℕ) → (slot : Option ℕ) → Role
  an_alternative : AlternativeRole → Role
  an_element : Role
  a_content : Role

abbrev pub component_role : (name : List ℕ) → Presence → (default : Option (List ℕ)) → (slot : Option ℕ) → Role
component_role name presence default slot = a_component (record { name = name; presence = presence; default = default; slot = slot })

abbrev pub alternative_role : (name : List ℕ) → List Test → ChoiceRule → Role
alternative_role name tests rule = an_alternative (record { name = name; tests = tests; rule = rule })

pub record Stand : Type 0 where
  pub path : List ℕ
  -- the slots at home in the SEQUENCEs round the node, those of the nearest first
  pub around : List ℕ
  pub role : Role
  pub align : ℕ
  pub form : Form

abbrev mutual
  pub nodes : Role → List ℕ → List ℕ → Grammar → List Stand
  nodes role path around (node align form) = record { path = path; around = around; role = role; align = align; form = form } ∷ form_nodes path around form

  pub form_nodes : List ℕ → List ℕ → Form → List Stand
  form_nodes path around (seq fields home) = field_nodes path (home ++ around) 0 fields
  form_nodes path around (list sizing g) = nodes an_element (path ++ 0 ∷ []) around g
  form_nodes path around (choice alternatives rule) = alternative_nodes rule path around 0 alternatives
  form_nodes path around (contained sizing g) = nodes a_content (path ++ 0 ∷ []) around g
  form_nodes path around _ = []

  pub field_nodes : List ℕ → List ℕ → ℕ → Fields → List Stand
  field_nodes path around k no_fields = []
  field_nodes path around k (component name g presence default own fs) = nodes (component_role name presence default own) (path ++ k ∷ []) around g ++ field_nodes path around (suc k) fs
  field_nodes path around k (inserted name g slot fs) = nodes (an_inserted name slot) (path ++ k ∷ []) around g ++ field_nodes path around (suc k) fs

  pub alternative_nodes : ChoiceRule → List ℕ → List ℕ → ℕ → Alternatives → List Stand
  alternative_nodes rule path around k no_alternatives = []
  alternative_nodes rule path around k (alternative name g tests more) = nodes (alternative_role name tests rule) (path ++ k ∷ []) around g ++ alternative_nodes rule path around (suc k) more

abbrev pub nodes_of : Grammar → List Stand
nodes_of root = nodes root_node [] [] root

-- the nodes inside one, in preorder
abbrev pub inside : Stand → List Stand
inside at = form_nodes at.path at.around at.form

-- Uses of slots: a node's own conditions in order, then its determinant, then its size.

pub data Use : Type 0 where
  condition : Test → Use
  item_of : (slot : ℕ) → Use
  size_of : (slot : ℕ) → Use

abbrev pub slot_of : Use → ℕ
slot_of (condition (Flag s)) = s
slot_of (condition (Equals s k)) = s
slot_of (item_of s) = s
slot_of (size_of s) = s

abbrev pub presence_tests : Presence → List Test
presence_tests (When ts) = ts
presence_tests _ = []

abbrev pub own_tests : Role → List Test
own_tests (a_component one) = presence_tests one.presence
own_tests (an_alternative one) = one.tests
own_tests _ = []

abbrev pub rule_uses : SizeRule → List Use
rule_uses (Slot s) = size_of s ∷ []
rule_uses (Prefix low width) = []
rule_uses (Ended p) = []

-- the name and the conditions of each alternative
abbrev pub conditions_of : Alternatives → List (List ℕ × List Test)
conditions_of no_alternatives = []
conditions_of (alternative name g ts more) = (name, ts) ∷ conditions_of more

abbrev pub choice_uses : ChoiceRule → List Use
choice_uses (Item s) = item_of s ∷ []
choice_uses _ = []

abbrev pub form_uses : Form → List Use
form_uses (octets sizing) = rule_uses sizing.rule
form_uses (bits sizing) = rule_uses sizing.rule
form_uses (text leaf) = rule_uses leaf.sized.rule
form_uses (list sizing g) = rule_uses sizing.rule
form_uses (contained sizing g) = rule_uses sizing.rule
form_uses (choice _ rule) = choice_uses rule
form_uses _ = []

abbrev pub uses : Stand → List Use
uses at = map condition (own_tests at.role) ++ form_uses at.form

-- the slot whose number this field says
abbrev pub slot_here : Role → Option ℕ
slot_here (an_inserted name slot) = slot
slot_here (a_component one) = one.slot
slot_here _ = None

abbrev pub inserted_slot : Role → Option ℕ
inserted_slot (an_inserted name slot) = slot
inserted_slot _ = None
