-- What a `Node` and a `Value` stand for. Nobody need read this: it turns each variant into the one of the same name in Grammar,
-- by folds as they are generated, and that nothing is lost on the way is a law (`data_tell_the_value`, `grammars_tell_the_node`).
use Rattle.std.specs.Prelude.{ℕ, List, [], ◌∷◌, Option, Some, None, option_map, map}
use Rattle.acn_grammar.specs.Grammar.{Grammar, Form, Fields, Alternatives, Data, Places, Elements, node, num, octets, bits, text, seq, list, choice, contained, no_fields, component, inserted, no_alternatives, alternative, int, boolean, item, null, octet_string, bit_string, characters, record_of, list_of, alt, no_places, empty, filled, no_elements, element}
use Rattle.acn_grammar.specs.declared.node.Presence.{Presence}
use Rattle.acn_grammar.specs.declared.node.Test.{Test}
use Rattle.acn_grammar.specs.declared.node.Body.{Body, fold-Body}
use Rattle.acn_grammar.specs.declared.node.Body.TheOpen.{Body-F, Field-F, Alternative-F, Choice-F, Node-F, Seq-F}
use Rattle.acn_grammar.specs.declared.node.Node.{Node, fold-Node}
use Rattle.acn_grammar.specs.declared.node.Field.{Field, fold-Field}
use Rattle.acn_grammar.specs.declared.node.Alternative.{Alternative, fold-Alternative}
use Rattle.acn_grammar.specs.declared.value.Value.{Value, fold-Value}
use Rattle.acn_grammar.specs.declared.value.Value.TheOpen.{Value-F}

-- Values

abbrev pub places_of : List (Option Data) → Places
places_of [] = no_places
places_of (None ∷ ds) = empty (places_of ds)
places_of (Some d ∷ ds) = filled d (places_of ds)

abbrev pub elements_of : List Data → Elements
elements_of [] = no_elements
elements_of (d ∷ ds) = element d (elements_of ds)

-- one level, with each value inside already seen as its data
abbrev pub value_step : Value-F Data → Data
value_step (Value-F.Int x) = int x
value_step (Value-F.Bool b) = boolean b
value_step (Value-F.Item i) = item i
value_step Value-F.Null = null
value_step (Value-F.Octets bs) = octet_string bs
value_step (Value-F.Bits bs) = bit_string bs
value_step (Value-F.Text cs) = characters cs
value_step (Value-F.Seq ds) = record_of (places_of ds)
value_step (Value-F.List ds) = list_of (elements_of ds)
value_step (Value-F.Alt i d) = alt i d

abbrev pub data_of : Value → Data
data_of = fold-Value Data value_step

-- Nodes

-- a field as it is put in front of others
pub data OneField : Type 0 where
  a_component : (name : List ℕ) → Grammar → Presence → (default : Option (List ℕ)) → (slot : Option ℕ) → OneField
  an_inserted : (name : List ℕ) → Grammar → (slot : Option ℕ) → OneField

pub record OneAlternative : Type 0 where
  pub name : List ℕ
  pub grammar : Grammar
  pub tests : List Test

abbrev pub with_field : OneField → Fields → Fields
with_field (a_component name g presence default own) fs = component name g presence default own fs
with_field (an_inserted name g slot) fs = inserted name g slot fs

abbrev pub fields_of : List OneField → Fields
fields_of [] = no_fields
fields_of (f ∷ fs) = with_field f (fields_of fs)

abbrev pub alternatives_of : List OneAlternative → Alternatives
alternatives_of [] = no_alternatives
alternatives_of (a ∷ as') = alternative a.name a.grammar a.tests (alternatives_of as')

abbrev pub body_step : Body-F Form OneField OneAlternative Form Grammar Form → Form
body_step (Body-F.Num leaf) = num leaf
body_step (Body-F.Octets s) = octets s
body_step (Body-F.Bits s) = bits s
body_step (Body-F.Text leaf) = text leaf
body_step (Body-F.Seq s) = s
body_step (Body-F.List s g) = list s g
body_step (Body-F.Choice c) = c
body_step (Body-F.Contained s g) = contained s g

abbrev pub field_step : Field-F Form OneField OneAlternative Form Grammar Form → OneField
field_step (Field-F.Component name g presence default own) = a_component name g presence default own
field_step (Field-F.Inserted name g slot) = an_inserted name g slot

abbrev pub alternative_step : Alternative-F Form OneField OneAlternative Form Grammar Form → OneAlternative
alternative_step a = record { name = a.name; grammar = a.node; tests = a.tests }

abbrev pub choice_step : Choice-F Form OneField OneAlternative Form Grammar Form → Form
choice_step c = choice (alternatives_of c.alternatives) c.rule

abbrev pub node_step : Node-F Form OneField OneAlternative Form Grammar Form → Grammar
node_step n = node n.align n.body

abbrev pub seq_step : Seq-F Form OneField OneAlternative Form Grammar Form → Form
seq_step s = seq (fields_of s.fields) s.home

abbrev pub grammar_of : Node → Grammar
grammar_of = fold-Node Form OneField OneAlternative Form Grammar Form body_step field_step alternative_step choice_step node_step seq_step

abbrev pub form_of : Body → Form
form_of = fold-Body Form OneField OneAlternative Form Grammar Form body_step field_step alternative_step choice_step node_step seq_step

abbrev pub field_of : Field → OneField
field_of = fold-Field Form OneField OneAlternative Form Grammar Form body_step field_step alternative_step choice_step node_step seq_step

abbrev pub alternative_of : Alternative → OneAlternative
alternative_of = fold-Alternative Form OneField OneAlternative Form Grammar Form body_step field_step alternative_step choice_step node_step seq_step

-- the fields of a list, in its order
abbrev pub fields_view : List Field → Fields
fields_view fs = fields_of (map field_of fs)

abbrev pub alternatives_view : List Alternative → Alternatives
alternatives_view as' = alternatives_of (map alternative_of as')

abbrev pub elements_view : List Value → Elements
elements_view vs = elements_of (map data_of vs)

abbrev pub places_view : List (Option Value) → Places
places_view vs = places_of (map (option_map data_of) vs)
