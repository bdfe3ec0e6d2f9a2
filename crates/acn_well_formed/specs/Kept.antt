-- The rules of nodes that speak of each by itself, by recursion over the nodes of a tree.
use Rattle.std.specs.Prelude.{ℕ, ◌+◌, nat_lt, nat_le, Bool, true, ◌&&◌, List, [], ◌∷◌}
use Rattle.std.specs.List.{list_all}
use Rattle.acn_grammar.specs.Grammar.{Grammar, Form, Fields, Alternatives, node, seq, list, choice, contained, no_fields, component, inserted, no_alternatives, alternative}
use Rattle.acn_grammar.specs.Check.{test_slot}
use Rattle.acn_grammar.specs.Tree.{is_align, form_fine, presence_fine, inserted_fine, own_fine}
use Rattle.acn_grammar.specs.View.{OneField, OneAlternative, a_component, an_inserted}
use Rattle.acn_grammar.specs.Walk.{slot_of, form_uses, presence_tests}
use Rattle.acn_grammar.specs.declared.node.Test.{Test}

-- each number is below n
abbrev pub all_below : ℕ → List ℕ → Bool
all_below n [] = true
all_below n (s ∷ ss) = nat_lt s n && all_below n ss

-- the numbers rise, from n on
abbrev pub rises_from : ℕ → List ℕ → Bool
rises_from n [] = true
rises_from n (s ∷ ss) = nat_le n s && rises_from (s + 1) ss

abbrev pub tests_below : ℕ → List Test → Bool
tests_below n ts = list_all (λ t. nat_lt (test_slot t) n) ts

-- the uses of a node that come from its form
abbrev pub uses_below : ℕ → Form → Bool
uses_below n form = list_all (λ u. nat_lt (slot_of u) n) (form_uses form)

abbrev pub form_in : Grammar → Form
form_in (node align form) = form

abbrev mutual
  pub kept : (slots : ℕ) → Grammar → Bool
  kept n (node align form) = is_align align && (form_fine form && (uses_below n form && form_kept n form))

  pub form_kept : (slots : ℕ) → Form → Bool
  form_kept n (seq fields home) = rises_from 0 home && (all_below n home && fields_kept n fields)
  form_kept n (list sizing g) = kept n g
  form_kept n (choice alternatives rule) = alternatives_kept n alternatives
  form_kept n (contained sizing g) = kept n g
  form_kept n _ = true

  pub fields_kept : (slots : ℕ) → Fields → Bool
  fields_kept n no_fields = true
  fields_kept n (component name g presence default own fs) = ((presence_fine presence && own_fine own presence (form_in g)) && (tests_below n (presence_tests presence) && kept n g)) && fields_kept n fs
  fields_kept n (inserted name g slot fs) = (inserted_fine slot (form_in g) && kept n g) && fields_kept n fs

  pub alternatives_kept : (slots : ℕ) → Alternatives → Bool
  alternatives_kept n no_alternatives = true
  alternatives_kept n (alternative name g tests more) = (tests_below n tests && kept n g) && alternatives_kept n more

abbrev pub field_kept : (slots : ℕ) → OneField → Bool
field_kept n (a_component name g presence default own) = (presence_fine presence && own_fine own presence (form_in g)) && (tests_below n (presence_tests presence) && kept n g)
field_kept n (an_inserted name g slot) = inserted_fine slot (form_in g) && kept n g

abbrev pub alternative_kept : (slots : ℕ) → OneAlternative → Bool
alternative_kept n a = tests_below n a.tests && kept n a.grammar

abbrev pub name_in : OneField → List ℕ
name_in (a_component name g presence default own) = name
name_in (an_inserted name g slot) = name
