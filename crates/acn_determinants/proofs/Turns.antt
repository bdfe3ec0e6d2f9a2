-- The walk over the fields of a SEQUENCE, one field at a time.
use Rattle.std.proofs.Common.{◌≡◌, ℕ, suc, ◌+◌, ◌<◌, ◌≤◌, Bool, true, false, List, [], ◌∷◌, ◌++◌, length, get_or, drop, Option, Some, None, option_map, nat_eq, refl, sym, ap, subst, ◌∙◌, add-one}
use Rattle.std.specs.Prelude.{if◌then◌else◌}
use Rattle.std.proofs.lemmas.List.{drop_more, append_assoc}
use Rattle.acn_grammar.specs.Grammar.{Fields, node}
use Rattle.acn_grammar.specs.Slots.{first_of_two, number_leaf}
use Rattle.acn_grammar.specs.Sound.{field_count}
use Rattle.acn_grammar.specs.View.{OneField, a_component, an_inserted, with_field, grammar_of, form_of, field_of, fields_view}
use Rattle.acn_grammar.specs.declared.node.Body.{Seq as Seq_body}
use Rattle.acn_grammar.specs.declared.node.Field.{Field, Component, Inserted}
use Rattle.acn_grammar.specs.declared.node.Node.{Node}
use Rattle.acn_grammar.specs.declared.node.NumLeaf.{NumLeaf}
use Rattle.acn_grammar.specs.declared.node.Presence.{Presence}
use Rattle.acn_grammar.specs.declared.node.Seq.{Seq as SeqNode}
use Rattle.acn_grammar.specs.declared.limits.TheConstants.{MOST_NODES}
use Rattle.acn_grammar.proofs.Views.{view_node, view_seq_form, view_component, view_inserted}
use Rattle.acn_determinants.specs.Spots.{Spot, under, here_or, spot_in, field_spot, Reached, FieldsReached}

-- One field.

module _ (p : List ℕ) (k s : ℕ) (leaf : Option NumLeaf) where
  deeper : (inner : Option Spot) (rest : Option Spot) → first_of_two (option_map (under (p ++ k ∷ [])) inner) (option_map (under p) rest) ≡ option_map (under p) (first_of_two (option_map (under (k ∷ [])) inner) rest)
  deeper None rest = refl
  deeper (Some x) rest = ap (λ z. Some (record { steps = z; leaf = x.leaf })) (append_assoc p (k ∷ []) x.steps)

  -- what was met before, the field itself, what is inside it, and the fields behind it
  pub joined : (a : Option Spot) (own : Option ℕ) (inner rest : Option Spot)
      → first_of_two (first_of_two (first_of_two a (here_or own s (record { steps = p ++ k ∷ []; leaf = leaf }) None)) (option_map (under (p ++ k ∷ [])) inner)) (option_map (under p) rest)
      ≡ first_of_two a (option_map (under p) (here_or own s (record { steps = k ∷ []; leaf = leaf }) (first_of_two (option_map (under (k ∷ [])) inner) rest)))
  joined (Some x) own inner rest = refl
  joined None None inner rest = deeper inner rest
  joined None (Some t) inner rest = by (nat_eq t s)
    where
      by : (b : Bool)
          → first_of_two (first_of_two (if b then Some (record { steps = p ++ k ∷ []; leaf = leaf }) else None) (option_map (under (p ++ k ∷ [])) inner)) (option_map (under p) rest)
          ≡ option_map (under p) (if b then Some (record { steps = k ∷ []; leaf = leaf }) else (first_of_two (option_map (under (k ∷ [])) inner) rest))
      by true = refl
      by false = deeper inner rest

pub component-turn : (p q : List ℕ) (k s : ℕ) (a b d : Option Spot) (f : Field) (name : List ℕ) (n : Node) (presence : Presence) (default : Option (List ℕ)) (own : Option ℕ) (fs : Fields) → f ≡ Component name n presence default own → q ≡ p ++ k ∷ []
    → b ≡ first_of_two a (here_or own s (record { steps = q; leaf = number_leaf (grammar_of n) }) None) → d ≡ first_of_two b (option_map (under q) (spot_in (grammar_of n) s))
    → first_of_two d (option_map (under p) (field_spot fs (suc k) s)) ≡ first_of_two a (option_map (under p) (field_spot (with_field (field_of f) fs) k s))
component-turn p q k s a b d f name n presence default own fs e path h g =
    rw (g, h, path, e, view_component name n presence default own) (joined p k s (number_leaf (grammar_of n)) a own (spot_in (grammar_of n) s) (field_spot fs (suc k) s))

pub inserted-turn : (p q : List ℕ) (k s : ℕ) (a b : Option Spot) (f : Field) (name : List ℕ) (n : Node) (slot : Option ℕ) (fs : Fields) → f ≡ Inserted name n slot → q ≡ p ++ k ∷ []
    → b ≡ first_of_two a (here_or slot s (record { steps = q; leaf = number_leaf (grammar_of n) }) None)
    → first_of_two b (option_map (under p) (field_spot fs (suc k) s)) ≡ first_of_two a (option_map (under p) (field_spot (with_field (field_of f) fs) k s))
inserted-turn p q k s a b f name n slot fs e path h =
    rw (h, path, e, view_inserted name n slot) (outer (first_of_two a (here_or slot s (record { steps = p ++ k ∷ []; leaf = number_leaf (grammar_of n) }) None)) (option_map (under p) (field_spot fs (suc k) s)) ∙ joined p k s (number_leaf (grammar_of n)) a slot None (field_spot fs (suc k) s))
  where
    outer : (x y : Option Spot) → first_of_two x y ≡ first_of_two (first_of_two x None) y
    outer None y = refl
    outer (Some x) y = refl

-- Fields.

pub fields-turn : (fields : List Field) (i step s : ℕ) (f : Field) (path p : List ℕ) (old new total : Option Spot) → i < length fields → f ≡ get_or fields i f → path ≡ p → step ≡ i
    → ((fs : Fields) → first_of_two new (option_map (under path) (field_spot fs (suc step) s)) ≡ first_of_two old (option_map (under path) (field_spot (with_field (field_of f) fs) step s)))
    → first_of_two old (option_map (under p) (field_spot (fields_view (drop i fields)) i s)) ≡ total
    → first_of_two new (option_map (under p) (field_spot (fields_view (drop (i + 1) fields)) (i + 1) s)) ≡ total
fields-turn fields i step s f path p old new total h e same at turn rest =
    let t : first_of_two new (option_map (under p) (field_spot (fields_view (drop (i + 1) fields)) (suc i) s)) ≡ first_of_two old (option_map (under p) (field_spot (with_field (field_of f) (fields_view (drop (i + 1) fields))) i s)) = rw (same, at) at (turn (fields_view (drop (i + 1) fields))) in
    let here : fields_view (drop i fields) ≡ with_field (field_of f) (fields_view (drop (i + 1) fields)) = ap fields_view (drop_more fields i f h ∙ ap (λ x. x ∷ drop (i + 1) fields) (sym e)) in
    ap (λ k. first_of_two new (option_map (under p) (field_spot (fields_view (drop (i + 1) fields)) k s))) (add-one i) ∙ (t ∙ (ap (λ fs. first_of_two old (option_map (under p) (field_spot fs i s))) (sym here) ∙ rest))

-- What is reached.

field_count-length : (fs : List Field) → field_count (fields_view fs) ≡ length fs
field_count-length [] = refl
field_count-length (f ∷ fs) = one_more (field_of f) ∙ ap suc (field_count-length fs)
  where
    one_more : (x : OneField) → field_count (with_field x (fields_view fs)) ≡ suc (field_count (fields_view fs))
    one_more (a_component name g presence default own) = refl
    one_more (an_inserted name g slot) = refl

pub few : (fs : List Field) → field_count (fields_view fs) ≤ MOST_NODES → length fs ≤ MOST_NODES
few fs h = subst (λ x. x ≤ MOST_NODES) (field_count-length fs) h

pub reached-fields : (k : ℕ) (n : Node) (s : SeqNode) → n.body ≡ Seq_body s → Reached k (grammar_of n) → (length s.fields ≤ MOST_NODES) × FieldsReached (suc k) (fields_view s.fields)
reached-fields k n s e h =
    let r = subst (Reached k) (view_node n ∙ ap (node n.align) (ap form_of e ∙ view_seq_form s)) h in
    (few s.fields r.1.0, r.1.1)

reached_rest : (k : ℕ) (f : OneField) (fs : Fields) → FieldsReached k (with_field f fs) → FieldsReached k fs
reached_rest k (a_component name g presence default own) fs r = r.1
reached_rest k (an_inserted name g slot) fs r = r.1

pub reached-turn : (k : ℕ) (fs : List Field) (i : ℕ) (f : Field) → i < length fs → f ≡ get_or fs i f → FieldsReached k (fields_view (drop i fs)) → FieldsReached k (fields_view (drop (i + 1) fs))
reached-turn k fs i f h e r = reached_rest k (field_of f) (fields_view (drop (i + 1) fs)) (subst (λ xs. FieldsReached k (fields_view xs)) (drop_more fs i f h ∙ ap (λ x. x ∷ drop (i + 1) fs) (sym e)) r)
