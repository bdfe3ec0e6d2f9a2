-- The walk over a value, one part at a time.
use Rattle.std.proofs.Common.{◌≡◌, ℕ, zero, suc, ◌+◌, ◌<◌, ◌≤◌, List, [], ◌∷◌, length, get_or, drop, Option, Some, None, refl, sym, ap, subst, ◌∙◌, arith, rules, add-one, Bool, true, false, ltb}
use Rattle.std.proofs.lemmas.Bool.Decides.{nat_tests}
use Rattle.std.proofs.lemmas.List.{drop_more}
use Rattle.acn_grammar.specs.Grammar.{Grammar, Fields, Places, Data, list, list_of}
use Rattle.acn_grammar.specs.Length.{bit_length, form_length, alternative_length, list_length, presence_bits, bit_before, ending}
use Rattle.acn_grammar.specs.View.{OneField, a_component, an_inserted, with_field, data_of, grammar_of, form_of, field_of, fields_view, places_view, elements_view, alternatives_view}
use Rattle.acn_grammar.specs.declared.node.Alternative.{Alternative}
use Rattle.acn_grammar.specs.declared.node.Body.{Body, List as List_body, the_lemmas as node_lemmas}
use Rattle.acn_grammar.specs.declared.node.Field.{Field, Component, Inserted}
use Rattle.acn_grammar.specs.declared.node.Presence.TheVariants.{Always, Bit, When}
use Rattle.acn_grammar.proofs.Views.{view_component, view_inserted}
use Rattle.acn_grammar.specs.declared.node.Sizing.{Sizing}
use Rattle.acn_grammar.specs.declared.node.Node.{Node}
use Rattle.acn_grammar.specs.declared.node.Presence.{Presence}
use Rattle.acn_grammar.specs.declared.value.Value.{Value, List as List_value, the_lemmas as value_lemmas}
use Rattle.acn_grammar.proofs.Intervals.{alternative_of-grammar}
use Rattle.acn_lengths.specs.Measured.{CanMeasure, CanMeasureForm, CanMeasureEach, CanMeasureCase, presence_width}

pub below : (a b : ℕ) → true ≡ ltb a b → a < b
below a b h = grind (arith, nat_tests)

-- Alternatives.

pub alternative-at : (as' : List Alternative) (j at : ℕ) (a : Alternative) (d : Data) → j < length as' → a ≡ get_or as' j a → alternative_length (alternatives_view as') j at d ≡ bit_length (grammar_of a.node) at d
alternative-at as' j at a d h e = there as' j h ∙ ap (λ (x : Alternative). bit_length (grammar_of x.node) at d) (sym e)
  where
    there : (xs : List Alternative) (i : ℕ) → i < length xs → alternative_length (alternatives_view xs) i at d ≡ bit_length (grammar_of (get_or xs i a).node) at d
    there [] i h = absurd (omega arith)
    there (x ∷ xs) zero h = search (rules, node_lemmas)
    there (x ∷ xs) (suc i) h = there xs i (omega arith)

pub alternative-past : (as' : List Alternative) (j at : ℕ) (d : Data) → length as' ≤ j → alternative_length (alternatives_view as') j at d ≡ 0
alternative-past [] j at d h = refl
alternative-past (x ∷ xs) zero at d h = absurd (omega arith)
alternative-past (x ∷ xs) (suc j) at d h = alternative-past xs j at d (omega arith)

pub can-case : (as' : List Alternative) (j : ℕ) (a : Alternative) (d : Data) → j < length as' → a ≡ get_or as' j a → CanMeasureCase (alternatives_view as') j d → CanMeasure (grammar_of a.node) d
can-case as' j a d h e c = subst (λ (x : Alternative). CanMeasure (grammar_of x.node) d) (sym e) (there as' j h c)
  where
    there : (xs : List Alternative) (i : ℕ) → i < length xs → CanMeasureCase (alternatives_view xs) i d → CanMeasure (grammar_of (get_or xs i a).node) d
    there [] i h c = absurd (omega arith)
    there (x ∷ xs) zero h c = subst (λ g. CanMeasure g d) (alternative_of-grammar x) c
    there (x ∷ xs) (suc i) h c = there xs i (omega arith) c

-- Elements.

pub view_list : (vs : List Value) → data_of (List_value vs) ≡ list_of (elements_view vs)
view_list vs = search (rules, value_lemmas)

pub view_list_form : (s : Sizing) (g : Node) → form_of (List_body s g) ≡ list s (grammar_of g)
view_list_form s g = search (rules, node_lemmas)

pub list-length : (b : Body) (v : Value) (s : Sizing) (g : Node) (vs : List Value) (at : ℕ) → b ≡ List_body s g → v ≡ List_value vs → form_length (form_of b) at (data_of v) ≡ list_length (ending s.rule) s.rule (bit_length (grammar_of g)) at (elements_view vs)
list-length b v s g vs at e q = rw (e, view_list_form s g, q, view_list vs)

pub can-list : (b : Body) (v : Value) (s : Sizing) (g : Node) (vs : List Value) → b ≡ List_body s g → v ≡ List_value vs → CanMeasureForm (form_of b) (data_of v) → CanMeasureEach (CanMeasure (grammar_of g)) (elements_view vs)
can-list b v s g vs e q c = subst (λ f. CanMeasureForm f (list_of (elements_view vs))) (ap form_of e ∙ view_list_form s g) (subst (λ d. CanMeasureForm (form_of b) d) (ap data_of q ∙ view_list vs) c)

-- Fields.

width_of : (p : Presence) (b : Bool) (bs : List Bool) → length (bit_before p b bs) ≡ presence_width p + length bs
width_of Always b bs = none (length bs)
  where
    none : (n : ℕ) → n ≡ 0 + n
    none n = omega arith
width_of Bit b bs = sym (add-one (length bs)) ∙ turned (length bs)
  where
    turned : (n : ℕ) → n + 1 ≡ 1 + n
    turned n = omega arith
width_of (When ts) b bs = none (length bs)
  where
    none : (n : ℕ) → n ≡ 0 + n
    none n = omega arith

count_turn : (f : OneField) (name : List ℕ) (g : Grammar) (presence : Presence) (default : Option (List ℕ)) (own : Option ℕ) (fs : List Field) (p : Option Value) (ps : List (Option Value)) → f ≡ a_component name g presence default own
    → length (presence_bits (with_field f (fields_view fs)) (places_view (p ∷ ps))) ≡ presence_width presence + length (presence_bits (fields_view fs) (places_view ps))
count_turn f name g presence default own fs None ps e = rw e (width_of presence false (presence_bits (fields_view fs) (places_view ps)))
count_turn f name g presence default own fs (Some v) ps e = rw e (width_of presence true (presence_bits (fields_view fs) (places_view ps)))

pub count-turn : (fs : List Field) (ps : List (Option Value)) (i k : ℕ) (f : Field) (name : List ℕ) (n : Node) (presence : Presence) (default : Option (List ℕ)) (own : Option ℕ) (p : Option Value) → i < length fs → k < length ps → f ≡ get_or fs i f → f ≡ Component name n presence default own
    → length (presence_bits (fields_view (drop i fs)) (places_view (drop k ps))) ≡ presence_width presence + length (presence_bits (fields_view (drop (i + 1) fs)) (places_view (drop (k + 1) ps)))
count-turn fs ps i k f name n presence default own p h j e is =
    rw (drop_more fs i f h, drop_more ps k p j, ← e) (count_turn (field_of f) name (grammar_of n) presence default own (drop (i + 1) fs) (get_or ps k p) (drop (k + 1) ps) (ap field_of is ∙ view_component name n presence default own))

inserted_count : (f : OneField) (name : List ℕ) (g : Grammar) (slot : Option ℕ) (fs : Fields) (ps : Places) → f ≡ an_inserted name g slot → length (presence_bits (with_field f fs) ps) ≡ length (presence_bits fs ps)
inserted_count f name g slot fs ps e = rw e

pub inserted-count : (fs : List Field) (ps : Places) (i : ℕ) (f : Field) (name : List ℕ) (n : Node) (slot : Option ℕ) → i < length fs → f ≡ get_or fs i f → f ≡ Inserted name n slot
    → length (presence_bits (fields_view (drop i fs)) ps) ≡ length (presence_bits (fields_view (drop (i + 1) fs)) ps)
inserted-count fs ps i f name n slot h e is =
    rw (drop_more fs i f h, ← e) (inserted_count (field_of f) name (grammar_of n) slot (fields_view (drop (i + 1) fs)) ps (ap field_of is ∙ view_inserted name n slot))

pub counted : (count here w rest all total new : ℕ) → new ≡ count + here → here ≡ w → all ≡ w + rest → count + all ≡ total → new + rest ≡ total
counted count here w rest all total new e f g h = omega arith
