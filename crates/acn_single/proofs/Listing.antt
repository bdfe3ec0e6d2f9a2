-- Room for a step, and what forms keep.
use Rattle.std.proofs.Common.{◌≡◌, ℕ, suc, ◌<◌, ◌≤◌, List, length, pos, true, sym, ap, ◌∙◌, subst, arith}
use Rattle.acn_num.specs.Ranges.{all_within}
use Rattle.acn_num.specs.declared.limits.TheConstants.{MOST_STEPS}
use Rattle.acn_grammar.specs.Grammar.{Grammar, node, seq, choice}
use Rattle.acn_grammar.specs.View.{OneField, a_component, an_inserted, form_of, fields_view, alternatives_view}
use Rattle.acn_grammar.specs.declared.node.Alternative.{Alternative}
use Rattle.acn_grammar.specs.declared.limits.TheConstants.{MOST_NODES}
use Rattle.acn_grammar.specs.declared.node.Body.{Body, Seq as Seq_body, Choice as Choice_body, Text as Text_body}
use Rattle.acn_grammar.specs.declared.node.Choice.{Choice as ChoiceNode, out-Choice}
use Rattle.acn_grammar.specs.declared.node.Field.{Field}
use Rattle.acn_grammar.specs.declared.node.TextLeaf.{TextLeaf}
use Rattle.acn_grammar.specs.declared.node.Seq.{Seq as SeqNode}
use Rattle.acn_grammar.proofs.TextRules.{text_rules}
use Rattle.acn_grammar.proofs.Views.{view_seq_form}
use Rattle.acn_single.specs.Lines.{CanList, FormCanList, FieldCanList, FieldsCanList, AlternativesCanList}
use Rattle.acn_single.proofs.Views.{count_fields, count_cases, view_choice_form, view_text_form}

-- Room for a step.

pub node_room : (n : ℕ) (g : Grammar) → CanList (suc n) g → n < MOST_STEPS
node_room n (node align form) h = (let k = first h in omega arith)
  where
    first : {A B : Type 0} → A × B → A
    first p = p.0

pub field_room : (n : ℕ) (f : OneField) → FieldCanList (suc n) f → n < MOST_STEPS
field_room n (a_component m g p def own) h = node_room n g h
field_room n (an_inserted m g slot) h = node_room n g h

-- What a SEQUENCE and a CHOICE keep.

pub seq_can : (n : ℕ) (b : Body) (s : SeqNode) (fields : List Field) → b ≡ Seq_body s → fields ≡ s.fields → FormCanList n (form_of b) → (length fields ≤ MOST_NODES) × FieldsCanList (suc n) (fields_view fields)
seq_can n b s fields e f h =
    let form : form_of b ≡ seq (fields_view fields) s.home = ap form_of e ∙ (view_seq_form s ∙ ap (λ fs. seq (fields_view fs) s.home) (sym f)) in
    let k = subst (FormCanList n) form h in
    (subst (λ m. m ≤ MOST_NODES) (count_fields fields) k.0, k.1)

pub cases_can : (n : ℕ) (b : Body) (c : ChoiceNode) (as' : List Alternative) → b ≡ Choice_body c → as' ≡ (out-Choice c).alternatives → FormCanList n (form_of b) → (length as' ≤ MOST_NODES) × AlternativesCanList (suc n) (alternatives_view as')
cases_can n b c as' e f h =
    let form : form_of b ≡ choice (alternatives_view as') (out-Choice c).rule = ap form_of e ∙ (view_choice_form c ∙ ap (λ xs. choice (alternatives_view xs) (out-Choice c).rule) (sym f)) in
    let k = subst (FormCanList n) form h in
    (subst (λ m. m ≤ MOST_NODES) (count_cases as') k.0, k.1)

-- a text has characters of seven bits
pub text_within : (k : ℕ) (body : Body) (leaf : TextLeaf) → body ≡ Text_body leaf → FormCanList k (form_of body) → all_within (pos 0) (pos 127) leaf.alphabet ≡ true
text_within k body leaf is h = (text_rules leaf (subst (FormCanList k) (ap form_of is ∙ view_text_form leaf) h)).small
