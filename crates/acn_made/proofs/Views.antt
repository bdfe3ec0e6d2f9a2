-- Nodes that are put together, level by level.
use Rattle.std.proofs.Common.{◌≡◌, ℕ, List, ◌∙◌, ap, rules}
use Rattle.std.specs.Prelude.{Result, Ok, Err, IfOk}
use Rattle.acn_grammar.specs.Grammar.{node, num, octets, bits, text, seq, list, choice, contained}
use Rattle.acn_grammar.specs.View.{grammar_of, form_of, fields_view, alternative_of, alternatives_view, OneAlternative}
use Rattle.acn_grammar.specs.declared.node.Alternative.{Alternative, roll-Alternative}
use Rattle.acn_grammar.specs.declared.node.Body.{Body, Num, Octets, Bits, Text, Seq as Seq_body, List as List_body, Choice as Choice_body, Contained, the_lemmas}
use Rattle.acn_grammar.specs.declared.node.Choice.{roll-Choice}
use Rattle.acn_grammar.specs.declared.node.ChoiceRule.{ChoiceRule}
use Rattle.acn_grammar.specs.declared.node.Field.{Field}
use Rattle.acn_grammar.specs.declared.node.Node.{Node, roll-Node}
use Rattle.acn_grammar.specs.declared.node.NumLeaf.{NumLeaf}
use Rattle.acn_grammar.specs.declared.node.Seq.{roll-Seq}
use Rattle.acn_grammar.specs.declared.node.Sizing.{Sizing}
use Rattle.acn_grammar.specs.declared.node.Test.{Test}
use Rattle.acn_grammar.specs.declared.node.TextLeaf.{TextLeaf}

pub view_whole : (align : ℕ) (b : Body) → grammar_of (roll-Node (record { align = align; body = b })) ≡ node align (form_of b)
view_whole align b = search (rules, the_lemmas)

pub view_num : (leaf : NumLeaf) → form_of (Num leaf) ≡ num leaf
view_num leaf = search (rules, the_lemmas)

pub view_octets : (s : Sizing) → form_of (Octets s) ≡ octets s
view_octets s = search (rules, the_lemmas)

pub view_bits : (s : Sizing) → form_of (Bits s) ≡ bits s
view_bits s = search (rules, the_lemmas)

pub view_text : (leaf : TextLeaf) → form_of (Text leaf) ≡ text leaf
view_text leaf = search (rules, the_lemmas)

pub view_list : (s : Sizing) (n : Node) → form_of (List_body s n) ≡ list s (grammar_of n)
view_list s n = search (rules, the_lemmas)

pub view_contained : (s : Sizing) (n : Node) → form_of (Contained s n) ≡ contained s (grammar_of n)
view_contained s n = search (rules, the_lemmas)

pub view_sequence : (fields : List Field) (home : List ℕ) → form_of (Seq_body (roll-Seq (record { fields = fields; home = home }))) ≡ seq (fields_view fields) home
view_sequence fields home = search (rules, the_lemmas)

pub view_choice : (cases : List Alternative) (rule : ChoiceRule) → form_of (Choice_body (roll-Choice (record { alternatives = cases; rule = rule }))) ≡ choice (alternatives_view cases) rule
view_choice cases rule = search (rules, the_lemmas)

pub view_alternative : (name : List ℕ) (n : Node) (tests : List Test) → alternative_of (roll-Alternative (record { name = name; node = n; tests = tests })) ≡ record { name = name; grammar = grammar_of n; tests = tests }
view_alternative name n tests = search (rules, the_lemmas)

pub ruleset node_views = (view_whole, view_num, view_octets, view_bits, view_text, view_list, view_contained, view_sequence, view_choice, view_alternative)

pub open_alternative : (a : Alternative) → OneAlternative.tests (alternative_of a) ≡ a.tests
open_alternative a = search (rules, the_lemmas)

pub sequence_whole : {E : Type 0} (r : Result Node E) (align wanted : ℕ) (fields : List Field) (home slots : List ℕ) → align ≡ wanted → home ≡ slots
    → IfOk r (λ one. grammar_of one ≡ node align (form_of (Seq_body (roll-Seq (record { fields = fields; home = home }))))) → IfOk r (λ one. grammar_of one ≡ node wanted (seq (fields_view fields) slots))
sequence_whole (Ok one) align wanted fields home slots d e h = h ∙ (ap (node align) (view_sequence fields home ∙ ap (seq (fields_view fields)) e) ∙ ap (λ a. node a (seq (fields_view fields) slots)) d)
sequence_whole (Err x) align wanted fields home slots d e h = tt
