-- What a node's JSON gives, by the node's body, and what the walk inside it may take for granted.
use Rattle.std.proofs.Common.{◌≡◌, ℕ, suc, ◌+◌, ◌<◌, ◌≤◌, ◌^◌, List, [], ◌∷◌, ◌++◌, length, Option, Some, None, Result, refl, sym, ap, subst, ◌∙◌, arith, rules}
use Rattle.std.specs.Prelude.{option_and_then, unwrap_or}
use Rattle.serde_json.specs.Data.{Items, no_members, Members, member}
use Rattle.serde_json.specs.Data as json
use Rattle.serde_json.specs.Find.{as_object, as_array}
use Rattle.acn_grammar.specs.Grammar.{Grammar, Fields, Places, node, seq, list, choice, no_fields, component, inserted, record_of, list_of}
use Rattle.acn_grammar.specs.View.{grammar_of, form_of, field_of, fields_view, alternatives_view, OneField, a_component, an_inserted, with_field}
use Rattle.acn_grammar.specs.declared.node.Alternative.{Alternative}
use Rattle.acn_grammar.specs.declared.node.Body.{Seq as Seq_body, List as List_body, Choice as Choice_body, the_lemmas as node_lemmas}
use Rattle.acn_grammar.specs.declared.node.Choice.{Choice as ChoiceNode, out-Choice}
use Rattle.acn_grammar.specs.declared.node.Field.{Field}
use Rattle.acn_grammar.specs.declared.node.Node.{Node}
use Rattle.acn_grammar.specs.declared.node.Seq.{Seq as SeqNode}
use Rattle.acn_grammar.specs.declared.node.Sizing.{Sizing}
use Rattle.acn_grammar.proofs.Views.{view_node, view_seq_form}
use Rattle.acn_json.proofs.FieldLists.{field_count-length, alternative_count-length}
use Rattle.acn_json.specs.Few.{size, items_size, members_size, CanRead, FieldsCanRead, AlternativesCanRead}
use Rattle.acn_json.specs.Reads.{LineFault, made, value_from, record_from, first_unknown, first_missing, places_from, each_from, only_member, alternative_from}

-- Sizes.

pub size-object : (j : json.Data) (ms : Members) → Some ms ≡ as_object j → members_size ms ≡ size j
size-object json.null ms h = cc
size-object (json.boolean b) ms h = cc
size-object (json.number n) ms h = cc
size-object (json.string s) ms h = cc
size-object (json.array ds) ms h = cc
size-object (json.object ns) ms h = let e : ms ≡ ns = cc in ap members_size e

pub size-array : (j : json.Data) (ds : Items) → Some ds ≡ as_array j → items_size ds ≡ size j
size-array json.null ds h = cc
size-array (json.boolean b) ds h = cc
size-array (json.number n) ds h = cc
size-array (json.string s) ds h = cc
size-array (json.array es) ds h = let e : ds ≡ es = cc in ap items_size e
size-array (json.object ms) ds h = cc

size_only : (ms : Members) (k : List ℕ) (i : json.Data) → Some (k, i) ≡ only_member ms → size i < members_size ms
size_only no_members k i h = cc
size_only (member l e no_members) k i h = (let same : i ≡ e = ap (λ (o : Option (List ℕ × json.Data)). (unwrap_or o (k, i)).1) h in let s = ap size same in omega arith)
size_only (member l e (member m f ms)) k i h = cc

pub size-only : (j : json.Data) (k : List ℕ) (i : json.Data) → Some (k, i) ≡ option_and_then only_member (as_object j) → size i < size j
size-only json.null k i h = cc
size-only (json.boolean b) k i h = cc
size-only (json.number n) k i h = cc
size-only (json.string s) k i h = cc
size-only (json.array ds) k i h = cc
size-only (json.object ms) k i h = size_only ms k i h

-- Nodes by their bodies.

seq_is : (n : Node) (s : SeqNode) → n.body ≡ Seq_body s → grammar_of n ≡ node n.align (seq (fields_view s.fields) s.home)
seq_is n s e = view_node n ∙ ap (node n.align) (ap form_of e ∙ view_seq_form s)

view_list_form : (sizing : Sizing) (m : Node) → form_of (List_body sizing m) ≡ list sizing (grammar_of m)
view_list_form sizing m = search (rules, node_lemmas)

view_choice_form : (c : ChoiceNode) → form_of (Choice_body c) ≡ choice (alternatives_view (out-Choice c).alternatives) (out-Choice c).rule
view_choice_form c = search (rules, node_lemmas)

list_is : (n : Node) (sizing : Sizing) (m : Node) → n.body ≡ List_body sizing m → grammar_of n ≡ node n.align (list sizing (grammar_of m))
list_is n sizing m e = view_node n ∙ ap (node n.align) (ap form_of e ∙ view_list_form sizing m)

choice_is : (n : Node) (c : ChoiceNode) → n.body ≡ Choice_body c → grammar_of n ≡ node n.align (choice (alternatives_view (out-Choice c).alternatives) (out-Choice c).rule)
choice_is n c e = view_node n ∙ ap (node n.align) (ap form_of e ∙ view_choice_form c)

pub seq-gives : (n : Node) (s : SeqNode) (path : List ℕ) (j : json.Data) (ms : Members) (fs : List Field) → n.body ≡ Seq_body s → fs ≡ s.fields → Some ms ≡ as_object j
    → record_from path (fields_view fs) ms (places_from path 0 (fields_view fs) ms) ≡ value_from path (grammar_of n) j
seq-gives n s path j ms fs e f h = sym (ap (λ g. value_from path g j) (seq_is n s e) ∙ rw (← h, ← f) refl)

pub list-gives : (n : Node) (sizing : Sizing) (m o : Node) (path : List ℕ) (j : json.Data) (js ks : Items) → n.body ≡ List_body sizing m → o ≡ m → Some js ≡ as_array j → ks ≡ js
    → made list_of (each_from (λ k i. value_from (path ++ k ∷ []) (grammar_of o) i) 0 ks) ≡ value_from path (grammar_of n) j
list-gives n sizing m o path j js ks e f h q = rw (f, q) (sym (ap (λ g. value_from path g j) (list_is n sizing m e) ∙ rw (← h) refl))

pub choice-gives : (n : Node) (c : ChoiceNode) (path : List ℕ) (j : json.Data) (k l : List ℕ) (i : json.Data) (as' : List Alternative) → n.body ≡ Choice_body c → as' ≡ (out-Choice c).alternatives → Some (k, i) ≡ option_and_then only_member (as_object j) → l ≡ k
    → alternative_from path 0 (alternatives_view as') l i ≡ value_from path (grammar_of n) j
choice-gives n c path j k l i as' e f h q = rw q (sym (ap (λ g. value_from path g j) (choice_is n c e) ∙ rw (← h, ← f) refl))

pub record-gives : (path : List ℕ) (fs : Fields) (ms : Members) (places : Result Places LineFault) → None ≡ first_unknown fs 0 ms → None ≡ first_missing ms 0 fs → made record_of places ≡ record_from path fs ms places
record-gives path fs ms places u m = rw (← u, ← m) refl

-- What may be taken for granted.

pub can-fields : (k : ℕ) (n : Node) (s : SeqNode) (fs : List Field) → n.body ≡ Seq_body s → fs ≡ s.fields → CanRead k (grammar_of n) → (length fs < 2 ^ 32) × FieldsCanRead (k + 1) (fields_view fs)
can-fields k n s fs e f h =
    let r = subst (CanRead k) (seq_is n s e) h in
    (subst (λ xs. length xs < 2 ^ 32) (sym f) (subst (λ x. x < 2 ^ 32) (field_count-length s.fields) r.1.0), subst (λ xs. FieldsCanRead (k + 1) (fields_view xs)) (sym f) r.1.1)

pub can-element : (k : ℕ) (n : Node) (sizing : Sizing) (m o : Node) → n.body ≡ List_body sizing m → o ≡ m → CanRead k (grammar_of n) → CanRead (k + 1) (grammar_of o)
can-element k n sizing m o e f h = subst (λ x. CanRead (k + 1) (grammar_of x)) (sym f) (subst (CanRead k) (list_is n sizing m e) h).1

pub can-alternatives : (k : ℕ) (n : Node) (c : ChoiceNode) (as' : List Alternative) → n.body ≡ Choice_body c → as' ≡ (out-Choice c).alternatives → CanRead k (grammar_of n) → (length as' < 2 ^ 32) × AlternativesCanRead (k + 1) (alternatives_view as')
can-alternatives k n c as' e f h =
    let r = subst (CanRead k) (choice_is n c e) h in
    (subst (λ xs. length xs < 2 ^ 32) (sym f) (subst (λ x. x < 2 ^ 32) (alternative_count-length (out-Choice c).alternatives) r.1.0), subst (λ xs. AlternativesCanRead (k + 1) (alternatives_view xs)) (sym f) r.1.1)

can_here : (k : ℕ) (g : Grammar) → CanRead k g → k ≤ 64
can_here k (node align form) h = h.0

pub missing-room : (m : ℕ) (ms : Members) (k s : ℕ) (fs : Fields) → FieldsCanRead m fs → Some s ≡ first_missing ms k fs → m ≤ 64
missing-room m ms k s no_fields c h = cc
missing-room m ms k s (component name g presence default own fs) c h = can_here m g c.0
missing-room m ms k s (inserted name g slot fs) c h = missing-room m ms (k + 1) s fs c h
