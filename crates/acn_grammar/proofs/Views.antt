-- Nodes and values level by level, as the lists in them.
use Rattle.std.proofs.Common.{◌≡◌, ℕ, zero, suc, ◌<◌, ◌≤◌, false, List, [], ◌∷◌, length, get_or, drop, Option, Some, None, nat_eq, refl, ◌∙◌, arith, rules}
use Rattle.std.proofs.lemmas.Bool.Decides.{nat_tests}
use Rattle.acn_grammar.specs.Grammar.{Data, record_of, no_fields, node, seq}
use Rattle.acn_grammar.specs.Shaped.{fits, fields_fit, alternative_fits}
use Rattle.acn_grammar.specs.View.{data_of, grammar_of, form_of, places_view, alternatives_view, fields_view, field_of, a_component, an_inserted}
use Rattle.acn_grammar.specs.declared.node.Field.{Component, Inserted}
use Rattle.acn_grammar.specs.declared.node.Presence.{Presence}
use Rattle.acn_grammar.specs.declared.node.Alternative.{Alternative}
use Rattle.acn_grammar.specs.declared.value.Value.{Value, Seq, the_lemmas}
use Rattle.acn_grammar.specs.declared.node.Body.{Seq as Seq_body, the_lemmas as node_lemmas}
use Rattle.acn_grammar.specs.declared.node.Node.{Node}
use Rattle.acn_grammar.specs.declared.node.Seq.{Seq as SeqNode}

pub view_seq : (xs : List (Option Value)) → data_of (Seq xs) ≡ record_of (places_view xs)
view_seq xs = search (rules, the_lemmas)

pub view_node : (n : Node) → grammar_of n ≡ node n.align (form_of n.body)
view_node n = search (rules, node_lemmas)

pub view_seq_form : (s : SeqNode) → form_of (Seq_body s) ≡ seq (fields_view s.fields) s.home
view_seq_form s = search (rules, node_lemmas)

-- no fields take no places
pub fields_fit-none : (ps : List (Option Value)) (at : ℕ) → at ≤ length ps → fields_fit no_fields (places_view (drop at ps)) ≡ nat_eq at (length ps)
fields_fit-none [] at h = search (rules, nat_tests)
fields_fit-none (None ∷ ps) zero h = search (rules, nat_tests)
fields_fit-none (Some v ∷ ps) zero h = search (rules, nat_tests)
fields_fit-none (p ∷ ps) (suc at) h = fields_fit-none ps at (omega arith) ∙ grind (arith, nat_tests)

-- the alternative of a number
pub alternative_fits-at : (as' : List Alternative) (i : ℕ) (a : Alternative) (d : Data) → i < length as' → alternative_fits (alternatives_view as') i d ≡ fits (grammar_of (get_or as' i a).node) d
alternative_fits-at [] i a d h = absurd (omega arith)
alternative_fits-at (x ∷ xs) zero a d h = search (rules, node_lemmas)
alternative_fits-at (x ∷ xs) (suc i) a d h = alternative_fits-at xs i a d (omega arith)

pub alternative_fits-past : (as' : List Alternative) (i : ℕ) (d : Data) → length as' ≤ i → alternative_fits (alternatives_view as') i d ≡ false
alternative_fits-past [] i d h = refl
alternative_fits-past (x ∷ xs) zero d h = absurd (omega arith)
alternative_fits-past (x ∷ xs) (suc i) d h = alternative_fits-past xs i d (omega arith)

pub view_component : (name : List ℕ) (n : Node) (presence : Presence) (default : Option (List ℕ)) (own : Option ℕ) → field_of (Component name n presence default own) ≡ a_component name (grammar_of n) presence default own
view_component name n presence default own = search (rules, node_lemmas)

pub view_inserted : (name : List ℕ) (n : Node) (slot : Option ℕ) → field_of (Inserted name n slot) ≡ an_inserted name (grammar_of n) slot
view_inserted name n slot = search (rules, node_lemmas)
