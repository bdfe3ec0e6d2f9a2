-- A node is what its grammar says.
use Rattle.std.proofs.Common.{◌≡◌, ℕ, List, [], ◌∷◌, Option, map, refl, sym, ap, ◌∙◌, subst, rules}
use Rattle.acn_grammar.specs.Grammar.{Grammar, Form, Fields, Alternatives, node, num, octets, bits, text, seq, list, choice, contained, no_fields, component, inserted, no_alternatives, alternative}
use Rattle.acn_grammar.specs.View.{OneField, OneAlternative, a_component, an_inserted, with_field, body_step, field_step, alternative_step, choice_step, node_step, seq_step, grammar_of, form_of, field_of, alternative_of, fields_view, alternatives_view}
use Rattle.acn_grammar.specs.declared.node.Alternative.{Alternative, roll-Alternative}
use Rattle.acn_grammar.specs.declared.node.Body.{Body, the_lemmas, map-Body, roll-Body}
use Rattle.acn_grammar.specs.declared.node.Body.TheOpen.{Body-F, Field-F}
use Rattle.acn_grammar.specs.declared.node.Choice.{Choice, fold-Choice, roll-Choice}
use Rattle.acn_grammar.specs.declared.node.ChoiceRule.{ChoiceRule}
use Rattle.acn_grammar.specs.declared.node.Field.{Field, map-Field, roll-Field}
use Rattle.acn_grammar.specs.declared.node.Node.{Node, ind-Node, roll-Node}
use Rattle.acn_grammar.specs.declared.node.Presence.{Presence}
use Rattle.acn_grammar.specs.declared.node.Seq.{Seq, fold-Seq, roll-Seq}
use Rattle.acn_grammar.specs.declared.node.Sizing.{Sizing}
use Rattle.acn_grammar.specs.declared.node.Test.{Test}

abbrev mutual
  node_of : Grammar → Node
  node_of (node align form) = roll-Node (record { align = align; body = body_of form })

  body_of : Form → Body
  body_of (num leaf) = roll-Body (Body-F.Num leaf)
  body_of (octets s) = roll-Body (Body-F.Octets s)
  body_of (bits s) = roll-Body (Body-F.Bits s)
  body_of (text leaf) = roll-Body (Body-F.Text leaf)
  body_of (seq fields home) = roll-Body (Body-F.Seq (roll-Seq (record { fields = fields_list fields; home = home })))
  body_of (list s g) = roll-Body (Body-F.List s (node_of g))
  body_of (choice cases rule) = roll-Body (Body-F.Choice (roll-Choice (record { alternatives = alternatives_list cases; rule = rule })))
  body_of (contained s g) = roll-Body (Body-F.Contained s (node_of g))

  fields_list : Fields → List Field
  fields_list no_fields = []
  fields_list (component name g presence default own fs) = roll-Field (Field-F.Component name (node_of g) presence default own) ∷ fields_list fs
  fields_list (inserted name g slot fs) = roll-Field (Field-F.Inserted name (node_of g) slot) ∷ fields_list fs

  alternatives_list : Alternatives → List Alternative
  alternatives_list no_alternatives = []
  alternatives_list (alternative name g tests more) = roll-Alternative (record { name = name; node = node_of g; tests = tests }) ∷ alternatives_list more

abbrev field_from : OneField → Field
field_from (a_component name g presence default own) = roll-Field (Field-F.Component name (node_of g) presence default own)
field_from (an_inserted name g slot) = roll-Field (Field-F.Inserted name (node_of g) slot)

abbrev alternative_from : OneAlternative → Alternative
alternative_from a = roll-Alternative (record { name = a.name; node = node_of a.grammar; tests = a.tests })

abbrev seq_view : Seq → Form
seq_view = fold-Seq Form OneField OneAlternative Form Grammar Form body_step field_step alternative_step choice_step node_step seq_step

abbrev choice_view : Choice → Form
choice_view = fold-Choice Form OneField OneAlternative Form Grammar Form body_step field_step alternative_step choice_step node_step seq_step

-- What each type loses: nothing.

abbrev BodyBack : Body → Type 0
BodyBack b = body_of (form_of b) ≡ b

abbrev FieldBack : Field → Type 0
FieldBack f = field_from (field_of f) ≡ f

abbrev AlternativeBack : Alternative → Type 0
AlternativeBack a = alternative_from (alternative_of a) ≡ a

abbrev ChoiceBack : Choice → Type 0
ChoiceBack c = body_of (choice_view c) ≡ roll-Body (Body-F.Choice c)

abbrev NodeBack : Node → Type 0
NodeBack n = node_of (grammar_of n) ≡ n

abbrev SeqBack : Seq → Type 0
SeqBack s = body_of (seq_view s) ≡ roll-Body (Body-F.Seq s)

abbrev HeldField : Type 0
HeldField = (f : Field) × FieldBack f

abbrev HeldAlternative : Type 0
HeldAlternative = (a : Alternative) × AlternativeBack a

abbrev HeldNode : Type 0
HeldNode = (n : Node) × NodeBack n

with_field-back : (f : OneField) (fs : Fields) → fields_list (with_field f fs) ≡ field_from f ∷ fields_list fs
with_field-back (a_component name g presence default own) fs = refl
with_field-back (an_inserted name g slot) fs = refl

fields_back : (ys : List HeldField) → fields_list (fields_view (map (λ e. e.0) ys)) ≡ map (λ e. e.0) ys
fields_back [] = refl
fields_back (e ∷ ys) = with_field-back (field_of e.0) (fields_view (map (λ e. e.0) ys)) ∙ rw (e.1, fields_back ys) refl

alternatives_back : (ys : List HeldAlternative) → alternatives_list (alternatives_view (map (λ e. e.0) ys)) ≡ map (λ e. e.0) ys
alternatives_back [] = refl
alternatives_back (e ∷ ys) = rw (alternatives_back ys) (ap (λ a. a ∷ map (λ e. e.0) ys) e.1)

-- One level of each type as it is seen.

seq_is : (fs : List Field) (home : List ℕ) → seq_view (roll-Seq (record { fields = fs; home = home })) ≡ seq (fields_view fs) home
seq_is fs home = search (rules, the_lemmas)

choice_is : (as' : List Alternative) (rule : ChoiceRule) → choice_view (roll-Choice (record { alternatives = as'; rule = rule })) ≡ choice (alternatives_view as') rule
choice_is as' rule = search (rules, the_lemmas)

node_is : (align : ℕ) (b : Body) → grammar_of (roll-Node (record { align = align; body = b })) ≡ node align (form_of b)
node_is align b = search (rules, the_lemmas)

alternative_is : (name : List ℕ) (n : Node) (tests : List Test) → alternative_of (roll-Alternative (record { name = name; node = n; tests = tests })) ≡ record { name = name; grammar = grammar_of n; tests = tests }
alternative_is name n tests = search (rules, the_lemmas)

component_is : (name : List ℕ) (n : Node) (presence : Presence) (default : Option (List ℕ)) (own : Option ℕ) → field_of (roll-Field (Field-F.Component name n presence default own)) ≡ a_component name (grammar_of n) presence default own
component_is name n presence default own = search (rules, the_lemmas)

inserted_is : (name : List ℕ) (n : Node) (slot : Option ℕ) → field_of (roll-Field (Field-F.Inserted name n slot)) ≡ an_inserted name (grammar_of n) slot
inserted_is name n slot = search (rules, the_lemmas)

body_seq : (s : Seq) → form_of (roll-Body (Body-F.Seq s)) ≡ seq_view s
body_seq s = search (rules, the_lemmas)

body_choice : (c : Choice) → form_of (roll-Body (Body-F.Choice c)) ≡ choice_view c
body_choice c = search (rules, the_lemmas)

body_list : (s : Sizing) (n : Node) → form_of (roll-Body (Body-F.List s n)) ≡ list s (grammar_of n)
body_list s n = search (rules, the_lemmas)

body_contained : (s : Sizing) (n : Node) → form_of (roll-Body (Body-F.Contained s n)) ≡ contained s (grammar_of n)
body_contained s n = search (rules, the_lemmas)

abbrev HeldBody : Type 0
HeldBody = (b : Body) × BodyBack b

abbrev HeldChoice : Type 0
HeldChoice = (c : Choice) × ChoiceBack c

abbrev HeldSeq : Type 0
HeldSeq = (s : Seq) × SeqBack s

body_layer : (y : Body-F HeldBody HeldField HeldAlternative HeldChoice HeldNode HeldSeq) → BodyBack (roll-Body (map-Body HeldBody HeldField HeldAlternative HeldChoice HeldNode HeldSeq Body Field Alternative Choice Node Seq (λ e. e.0) (λ e. e.0) (λ e. e.0) (λ e. e.0) (λ e. e.0) (λ e. e.0) y))
body_layer (Body-F.Num leaf) = search (rules, the_lemmas)
body_layer (Body-F.Octets s) = search (rules, the_lemmas)
body_layer (Body-F.Bits s) = search (rules, the_lemmas)
body_layer (Body-F.Text leaf) = search (rules, the_lemmas)
body_layer (Body-F.Seq e) = ap body_of (body_seq e.0) ∙ e.1
body_layer (Body-F.List s e) = ap body_of (body_list s e.0) ∙ ap (λ n. roll-Body (Body-F.List s n)) e.1
body_layer (Body-F.Choice e) = ap body_of (body_choice e.0) ∙ e.1
body_layer (Body-F.Contained s e) = ap body_of (body_contained s e.0) ∙ ap (λ n. roll-Body (Body-F.Contained s n)) e.1

field_layer : (y : Field-F HeldBody HeldField HeldAlternative HeldChoice HeldNode HeldSeq) → FieldBack (roll-Field (map-Field HeldBody HeldField HeldAlternative HeldChoice HeldNode HeldSeq Body Field Alternative Choice Node Seq (λ e. e.0) (λ e. e.0) (λ e. e.0) (λ e. e.0) (λ e. e.0) (λ e. e.0) y))
field_layer (Field-F.Component name e presence default own) = ap field_from (component_is name e.0 presence default own) ∙ ap (λ n. roll-Field (Field-F.Component name n presence default own)) e.1
field_layer (Field-F.Inserted name e slot) = ap field_from (inserted_is name e.0 slot) ∙ ap (λ n. roll-Field (Field-F.Inserted name n slot)) e.1

pub back : (n : Node) → NodeBack n
back = ind-Node BodyBack FieldBack AlternativeBack ChoiceBack NodeBack SeqBack
    (λ x y is. subst (λ z. BodyBack (roll-Body z)) is (body_layer y))
    (λ x y is. subst (λ z. FieldBack (roll-Field z)) is (field_layer y))
    (λ x y is. subst (λ z. AlternativeBack (roll-Alternative z)) is (ap alternative_from (alternative_is y.name y.node.0 y.tests) ∙ ap (λ n. roll-Alternative (record { name = y.name; node = n; tests = y.tests })) y.node.1))
    (λ x y is. subst (λ z. ChoiceBack (roll-Choice z)) is (ap body_of (choice_is (map (λ e. e.0) y.alternatives) y.rule) ∙ ap (λ as'. roll-Body (Body-F.Choice (roll-Choice (record { alternatives = as'; rule = y.rule })))) (alternatives_back y.alternatives)))
    (λ x y is. subst (λ z. NodeBack (roll-Node z)) is (ap node_of (node_is y.align y.body.0) ∙ ap (λ b. roll-Node (record { align = y.align; body = b })) y.body.1))
    (λ x y is. subst (λ z. SeqBack (roll-Seq z)) is (ap body_of (seq_is (map (λ e. e.0) y.fields) y.home) ∙ ap (λ fs. roll-Body (Body-F.Seq (roll-Seq (record { fields = fs; home = y.home })))) (fields_back y.fields)))

-- nodes with one grammar are one
pub same_grammar : (n m : Node) → grammar_of n ≡ grammar_of m → n ≡ m
same_grammar n m e = sym (back n) ∙ (ap node_of e ∙ back m)
