-- How many presence bits stand in front of fields, one field at a time.
use Rattle.std.proofs.Common.{◌≡◌, ℕ, ◌+◌, ◌<◌, List, ◌∷◌, length, get_or, drop, Option, Some, None, sym, ap, ◌∙◌, arith, add-one, Bool, true, false}
use Rattle.std.proofs.lemmas.List.{drop_more}
use Rattle.acn_grammar.specs.Grammar.{Grammar, Fields, Places}
use Rattle.acn_grammar.specs.Length.{presence_bits, bit_before}
use Rattle.acn_grammar.specs.View.{OneField, a_component, an_inserted, with_field, grammar_of, field_of, fields_view, places_view}
use Rattle.acn_grammar.specs.declared.node.Field.{Field, Component, Inserted}
use Rattle.acn_grammar.specs.declared.node.Node.{Node}
use Rattle.acn_grammar.specs.declared.node.Presence.{Presence}
use Rattle.acn_grammar.specs.declared.node.Presence.TheVariants.{Always, Bit, When}
use Rattle.acn_grammar.specs.declared.value.Value.{Value}
use Rattle.acn_pieces.proofs.Views.{view_component, view_inserted}
use Rattle.acn_pieces.specs.Walking.{presence_width}

width_of : (p : Presence) (b : Bool) (bs : List Bool) → length (bit_before p b bs) ≡ presence_width p + length bs
width_of Always b bs = none (length bs)
  where
    none : (n : ℕ) → n ≡ 0 + n
    none n = omega arith
width_of Bit b bs = sym (add-one (length bs)) ∙ turned (length bs)
  where
    turned : (n : ℕ) → n + 1 ≡ 1 + n
    turned n = omega arith
width_of (When ts) b bs = none (length bs)
  where
    none : (n : ℕ) → n ≡ 0 + n
    none n = omega arith

count_turn : (f : OneField) (name : List ℕ) (g : Grammar) (presence : Presence) (default : Option (List ℕ)) (own : Option ℕ) (fs : List Field) (p : Option Value) (ps : List (Option Value)) → f ≡ a_component name g presence default own
    → length (presence_bits (with_field f (fields_view fs)) (places_view (p ∷ ps))) ≡ presence_width presence + length (presence_bits (fields_view fs) (places_view ps))
count_turn f name g presence default own fs None ps e = rw e (width_of presence false (presence_bits (fields_view fs) (places_view ps)))
count_turn f name g presence default own fs (Some v) ps e = rw e (width_of presence true (presence_bits (fields_view fs) (places_view ps)))

pub count-turn : (fs : List Field) (ps : List (Option Value)) (i k : ℕ) (f : Field) (name : List ℕ) (n : Node) (presence : Presence) (default : Option (List ℕ)) (own : Option ℕ) (p : Option Value) → i < length fs → k < length ps → f ≡ get_or fs i f → f ≡ Component name n presence default own
    → length (presence_bits (fields_view (drop i fs)) (places_view (drop k ps))) ≡ presence_width presence + length (presence_bits (fields_view (drop (i + 1) fs)) (places_view (drop (k + 1) ps)))
count-turn fs ps i k f name n presence default own p h j e is =
    rw (drop_more fs i f h, drop_more ps k p j, ← e) (count_turn (field_of f) name (grammar_of n) presence default own (drop (i + 1) fs) (get_or ps k p) (drop (k + 1) ps) (ap field_of is ∙ view_component name n presence default own))

inserted_count : (f : OneField) (name : List ℕ) (g : Grammar) (slot : Option ℕ) (fs : Fields) (ps : Places) → f ≡ an_inserted name g slot → length (presence_bits (with_field f fs) ps) ≡ length (presence_bits fs ps)
inserted_count f name g slot fs ps e = rw e

pub inserted-count : (fs : List Field) (ps : Places) (i : ℕ) (f : Field) (name : List ℕ) (n : Node) (slot : Option ℕ) → i < length fs → f ≡ get_or fs i f → f ≡ Inserted name n slot
    → length (presence_bits (fields_view (drop i fs)) ps) ≡ length (presence_bits (fields_view (drop (i + 1) fs)) ps)
inserted-count fs ps i f name n slot h e is =
    rw (drop_more fs i f h, ← e) (inserted_count (field_of f) name (grammar_of n) slot (fields_view (drop (i + 1) fs)) ps (ap field_of is ∙ view_inserted name n slot))

pub counted : (count here w rest all total new : ℕ) → new ≡ count + here → here ≡ w → all ≡ w + rest → count + all ≡ total → new + rest ≡ total
counted count here w rest all total new e f g h = omega arith
