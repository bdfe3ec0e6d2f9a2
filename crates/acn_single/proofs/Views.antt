-- Fields, alternatives and bodies level by level, and how rows count them.
use Rattle.std.proofs.Common.{◌≡◌, suc, List, [], ◌∷◌, length, rules, refl, ap}
use Rattle.acn_grammar.specs.Fails.{count_of}
use Rattle.acn_grammar.specs.Grammar.{text, choice}
use Rattle.acn_grammar.specs.Sound.{field_count}
use Rattle.acn_grammar.specs.View.{OneField, a_component, an_inserted, with_field, field_of, fields_view, alternatives_view, form_of}
use Rattle.acn_grammar.specs.declared.node.Alternative.{Alternative}
use Rattle.acn_grammar.specs.declared.node.Body.{Text as Text_body, Choice as Choice_body, the_lemmas as node_lemmas}
use Rattle.acn_grammar.specs.declared.node.Choice.{Choice as ChoiceNode, out-Choice}
use Rattle.acn_grammar.specs.declared.node.Field.{Field}
use Rattle.acn_grammar.specs.declared.node.TextLeaf.{TextLeaf}

pub count_fields : (fs : List Field) → field_count (fields_view fs) ≡ length fs
count_fields [] = refl
count_fields (f ∷ fs) = by (field_of f) (count_fields fs)
  where
    by : (one : OneField) → field_count (fields_view fs) ≡ length fs → field_count (with_field one (fields_view fs)) ≡ suc (length fs)
    by (a_component n g p def own) e = ap suc e
    by (an_inserted n g slot) e = ap suc e

pub count_cases : (as' : List Alternative) → count_of (alternatives_view as') ≡ length as'
count_cases [] = refl
count_cases (a ∷ as') = ap suc (count_cases as')

pub view_text_form : (leaf : TextLeaf) → form_of (Text_body leaf) ≡ text leaf
view_text_form leaf = search (rules, node_lemmas)

pub view_choice_form : (c : ChoiceNode) → form_of (Choice_body c) ≡ choice (alternatives_view (out-Choice c).alternatives) (out-Choice c).rule
view_choice_form c = search (rules, node_lemmas)
