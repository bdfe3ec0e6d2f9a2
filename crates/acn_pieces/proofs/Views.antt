-- Nodes, fields and alternatives level by level.
use Rattle.std.proofs.Common.{◌≡◌, ℕ, List, Option, rules}
use Rattle.acn_grammar.specs.Grammar.{node, seq, list, record_of, list_of}
use Rattle.acn_grammar.specs.View.{a_component, an_inserted, data_of, grammar_of, form_of, field_of, alternative_of, fields_view, places_view, elements_view}
use Rattle.acn_grammar.specs.declared.node.Alternative.{Alternative}
use Rattle.acn_grammar.specs.declared.node.Body.{Seq as SeqBody, List as ListBody, the_lemmas as node_lemmas}
use Rattle.acn_grammar.specs.declared.node.Field.{Component, Inserted}
use Rattle.acn_grammar.specs.declared.node.Node.{Node}
use Rattle.acn_grammar.specs.declared.node.Presence.{Presence}
use Rattle.acn_grammar.specs.declared.node.Seq.{Seq as SeqNode}
use Rattle.acn_grammar.specs.declared.node.Sizing.{Sizing}
use Rattle.acn_grammar.specs.declared.value.Value.{Value, Seq as SeqValue, List as ListValue, the_lemmas as value_lemmas}

pub view_node : (n : Node) → grammar_of n ≡ node n.align (form_of n.body)
view_node n = search (rules, node_lemmas)

pub view_component : (name : List ℕ) (n : Node) (presence : Presence) (default : Option (List ℕ)) (own : Option ℕ) → field_of (Component name n presence default own) ≡ a_component name (grammar_of n) presence default own
view_component name n presence default own = search (rules, node_lemmas)

pub view_inserted : (name : List ℕ) (n : Node) (slot : Option ℕ) → field_of (Inserted name n slot) ≡ an_inserted name (grammar_of n) slot
view_inserted name n slot = search (rules, node_lemmas)

pub alternative_of-grammar : (a : Alternative) → (alternative_of a).grammar ≡ grammar_of a.node
alternative_of-grammar a = search (rules, node_lemmas)

pub view_seq : (xs : List (Option Value)) → data_of (SeqValue xs) ≡ record_of (places_view xs)
view_seq xs = search (rules, value_lemmas)

pub view_seq_form : (s : SeqNode) → form_of (SeqBody s) ≡ seq (fields_view s.fields) s.home
view_seq_form s = search (rules, node_lemmas)

pub view_list : (vs : List Value) → data_of (ListValue vs) ≡ list_of (elements_view vs)
view_list vs = search (rules, value_lemmas)

pub view_list_form : (s : Sizing) (g : Node) → form_of (ListBody s g) ≡ list s (grammar_of g)
view_list_form s g = search (rules, node_lemmas)
