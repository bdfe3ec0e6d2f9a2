-- What the walk over a body wants and leaves, with what the program sees of it.
use Rattle.std.proofs.Common.{◌≡◌, ℕ, suc, ◌≤◌, List, length, Option, sym, ap, subst, ◌∙◌, arith}
use Rattle.acn_num.specs.declared.limits.TheConstants.{MOST_SIZE}
use Rattle.acn_grammar.specs.Grammar.{Form, Data, seq, list, record_of, list_of}
use Rattle.acn_grammar.specs.Length.{bit_length, form_length, list_length, ending}
use Rattle.acn_grammar.specs.View.{grammar_of, fields_view, places_view, elements_view}
use Rattle.acn_grammar.specs.declared.limits.TheConstants.{MOST_NODES}
use Rattle.acn_grammar.specs.declared.node.Field.{Field}
use Rattle.acn_grammar.specs.declared.node.Node.{Node}
use Rattle.acn_grammar.specs.declared.node.Sizing.{Sizing}
use Rattle.acn_grammar.specs.declared.value.Value.{Value}
use Rattle.acn_pieces.specs.declared.walk.Walk.{Walk}
use Rattle.acn_pieces.specs.CanWalk.{CanWalk, CanWalkEach, CanWalkFields, CanWalkForm}
use Rattle.acn_pieces.specs.Walking.{Near, sequence_length, behind_form, behind_sequence, behind_list}
use Rattle.acn_pieces.proofs.Steps.{count_elements, count_fields}

module _ (form : Form) (d : Data) (w : Walk) where
  found_so : (form' : Form) (d' : Data) (w2 : Walk) → form ≡ form' → d ≡ d' → w2 ≡ behind_form form' d' w → w2 ≡ behind_form form d w
  found_so form' d' w2 e f g = g ∙ sym (ap (λ (x : Form). behind_form x d w) e ∙ ap (λ (x : Data). behind_form form' x w) f)

  can_so : (form' : Form) (d' : Data) → form ≡ form' → d ≡ d' → CanWalkForm (length w.path) form d → CanWalkForm (length w.path) form' d'
  can_so form' d' e f c = subst (λ (x : Form). CanWalkForm (length w.path) x d') e (subst (λ (x : Data). CanWalkForm (length w.path) form x) f c)

  near_so : (form' : Form) (d' : Data) → form ≡ form' → d ≡ d' → Near (form_length form w.at d) w → Near (form_length form' w.at d') w
  near_so form' d' e f c = subst (λ (x : Form). Near (form_length x w.at d') w) e (subst (λ (x : Data). Near (form_length form w.at x) w) f c)

  -- SEQUENCEs.

  module _ (fields fields' : List Field) (home : List ℕ) (ps ps' : List (Option Value)) (e : form ≡ seq (fields_view fields) home) (f : d ≡ record_of (places_view ps)) (g : fields' ≡ fields) (h : ps' ≡ ps) where
    pub sequence_given : CanWalkForm (length w.path) form d → Near (form_length form w.at d) w
        → (length fields' ≤ MOST_NODES) × (CanWalkFields (suc (length w.path)) (fields_view fields') (places_view ps') × Near (sequence_length (fields_view fields') w.at (places_view ps')) w)
    sequence_given can near =
        let c = can_so (seq (fields_view fields) home) (record_of (places_view ps)) e f can in
        let few = c.0 in
        let n = near_so (seq (fields_view fields) home) (record_of (places_view ps)) e f near in
        let count = count_fields fields in
        rw (g, h) (omega (arith, few, count), (c.1, n))

    pub sequence_found : (w2 : Walk) → w2 ≡ behind_sequence (fields_view fields') (places_view ps') w → w2 ≡ behind_form form d w
    sequence_found w2 x = found_so (seq (fields_view fields) home) (record_of (places_view ps)) w2 e f (rw (g, h) at x)

  -- Lists.

  module _ (sizing : Sizing) (n n' : Node) (vs vs' : List Value) (e : form ≡ list sizing (grammar_of n)) (f : d ≡ list_of (elements_view vs)) (g : n' ≡ n) (h : vs' ≡ vs) where
    pub list_given : CanWalkForm (length w.path) form d → Near (form_length form w.at d) w
        → (length vs' ≤ MOST_SIZE) × (CanWalkEach (CanWalk (suc (length w.path)) (grammar_of n')) (elements_view vs') × Near (list_length (ending sizing.rule) sizing.rule (bit_length (grammar_of n')) w.at (elements_view vs')) w)
    list_given can near =
        let c = can_so (list sizing (grammar_of n)) (list_of (elements_view vs)) e f can in
        let few = c.0 in
        let k = near_so (list sizing (grammar_of n)) (list_of (elements_view vs)) e f near in
        let count = count_elements vs in
        rw (g, h) (omega (arith, few, count), (c.1, k))

    pub list_found : (w2 : Walk) → w2 ≡ behind_list sizing (grammar_of n') (elements_view vs') w → w2 ≡ behind_form form d w
    list_found w2 x = found_so (list sizing (grammar_of n)) (list_of (elements_view vs)) w2 e f (rw (g, h) at x)
