-- Which values have the form of a node, that of its type in X.680 (clauses 18 to 29, 41), constraints apart.
use Rattle.std.specs.Prelude.{ℕ, zero, suc, nat_lt, List, [], ◌∷◌, length, Bool, true, false, ◌&&◌, IsTrue}
use Rattle.acn_grammar.specs.Grammar.{Grammar, Form, Fields, Alternatives, Data, Places, Elements, node, num, octets, bits, text, seq, list, choice, contained, no_fields, component, inserted, no_alternatives, alternative, int, boolean, item, null, octet_string, bit_string, characters, record_of, list_of, alt, no_places, empty, filled, no_elements, element}
use Rattle.acn_grammar.specs.declared.node.NumKind.{NumKind}
use Rattle.acn_grammar.specs.declared.node.NumKind.TheVariants.{Integer, Boolean, Enumerated, Null}
use Rattle.acn_grammar.specs.declared.node.Presence.{Presence}
use Rattle.acn_grammar.specs.declared.node.Presence.TheVariants.{Always, Bit, When}

-- a component of this presence may be absent
abbrev pub may_be_absent : Presence → Bool
may_be_absent Always = false
may_be_absent Bit = true
may_be_absent (When tests) = true

abbrev pub num_fits : NumKind → (items : ℕ) → Data → Bool
num_fits Integer items (int x) = true
num_fits Boolean items (boolean b) = true
num_fits Enumerated items (item i) = nat_lt i items
num_fits Null items null = true
num_fits _ _ _ = false

-- each is a number from 0 to 255
abbrev pub are_octets : List ℕ → Bool
are_octets [] = true
are_octets (o ∷ os) = nat_lt o 256 && are_octets os

abbrev pub each_element : (Data → Bool) → Elements → Bool
each_element p no_elements = true
each_element p (element d es) = p d && each_element p es

abbrev mutual
  -- the value has the form of the node
  pub fits : Grammar → Data → Bool
  fits (node align form) d = form_fits form d

  pub form_fits : Form → Data → Bool
  form_fits (num leaf) d = num_fits leaf.kind (length leaf.items.items) d
  form_fits (octets sizing) (octet_string os) = are_octets os
  form_fits (bits sizing) (bit_string bs) = true
  form_fits (text leaf) (characters cs) = are_octets cs
  form_fits (seq fields home) (record_of places) = fields_fit fields places
  form_fits (list sizing g) (list_of es) = each_element (fits g) es
  form_fits (choice alternatives rule) (alt i d) = alternative_fits alternatives i d
  form_fits (contained sizing g) d = fits g d
  form_fits _ _ = false

  -- one place for each component
  pub fields_fit : Fields → Places → Bool
  fields_fit no_fields no_places = true
  fields_fit (component name g presence default own fs) (filled d ps) = fits g d && fields_fit fs ps
  fields_fit (component name g presence default own fs) (empty ps) = may_be_absent presence && fields_fit fs ps
  fields_fit (inserted name g slot fs) ps = fields_fit fs ps
  fields_fit _ _ = false

  pub alternative_fits : Alternatives → ℕ → Data → Bool
  alternative_fits (alternative name g tests more) zero d = fits g d
  alternative_fits (alternative name g tests more) (suc i) d = alternative_fits more i d
  alternative_fits no_alternatives i d = false

abbrev pub Shaped : Grammar → Data → Type 0
Shaped g d = IsTrue (fits g d)
