-- The walk, one part at a time.
use Rattle.std.proofs.Common.{◌≡◌, ℕ, zero, suc, ◌+◌, ◌-◌, ◌*◌, ◌<◌, ◌≤◌, Bool, true, false, List, [], ◌∷◌, ◌++◌, length, get_or, drop, Option, Some, None, refl, sym, ap, subst, ◌∙◌, arith, rules, add-one, append-nil, drop_of_length-le, ltb}
use Rattle.std.specs.Prelude.{option_map}
use Rattle.std.proofs.lemmas.Bool.Decides.{nat_tests}
use Rattle.std.proofs.lemmas.List.{append_assoc, drop_more}
use Rattle.acn_num.specs.Bits.{octets as octets_for}
use Rattle.acn_grammar.specs.Grammar.{Grammar, Form, Fields, Alternatives, Data, Places, Elements, node, num, octets, bits, text, seq, list, choice, contained, no_fields, component, inserted, record_of, list_of, alt, no_places, empty, filled, element, element_count}
use Rattle.acn_grammar.specs.Length.{padding, bit_length, form_length, fields_length, alternative_length, run_length, list_length, inserted_length, rule_width, index_width, presence_bits, ending}
use Rattle.acn_grammar.specs.Sound.{field_count}
use Rattle.acn_grammar.specs.View.{OneField, a_component, an_inserted, with_field, data_of, grammar_of, alternative_of, form_of, field_of, fields_view, places_view, elements_view, alternatives_view}
use Rattle.acn_grammar.specs.declared.node.Alternative.{Alternative}
use Rattle.acn_grammar.specs.declared.node.Body.{the_lemmas as node_lemmas}
use Rattle.acn_grammar.specs.declared.node.ChoiceRule.{ChoiceRule}
use Rattle.acn_grammar.specs.declared.node.Field.{Field, Component, Inserted}
use Rattle.acn_grammar.specs.declared.node.Node.{Node}
use Rattle.acn_grammar.specs.declared.node.Presence.{Presence as OnePresence}
use Rattle.acn_grammar.specs.declared.node.Sizing.{Sizing}
use Rattle.acn_grammar.specs.declared.node.SizeRule.{SizeRule}
use Rattle.acn_grammar.specs.declared.node.SizeRule.TheVariants.{Prefix, Slot, Ended}
use Rattle.acn_grammar.specs.declared.value.Value.{Value}
use Rattle.acn_pieces.proofs.Views.{alternative_of-grammar, view_component, view_inserted}
use Rattle.acn_pieces.specs.declared.piece.Piece.{Piece}
use Rattle.acn_pieces.specs.declared.piece.PieceKind.{PieceKind}
use Rattle.acn_pieces.specs.declared.piece.PieceKind.TheVariants.{Pad, Presence, Size, Index, Leaf, Mark, Fill}
use Rattle.acn_pieces.specs.declared.walk.Walk.{Walk}
use Rattle.acn_pieces.specs.CanWalk.{CanWalk, CanWalkCase, CanWalkEach, CanWalkField, CanWalkFields, CanWalkPlace}
use Rattle.acn_pieces.specs.Pieces.{part, inserted_pieces, run_pieces, pieces, form_pieces, field_pieces, case_pieces, list_pieces}
use Rattle.acn_pieces.specs.Walking.{Near, place_length, behind, behind_inserted, behind_place, behind_part, behind_node, behind_form, behind_inside, behind_fields, behind_sequence, behind_elements, behind_list, behind_case, behind_contents}

abbrev walk_of : List Piece → List ℕ → (origin at : ℕ) → Walk
walk_of f p o a = record { found = f; path = p; origin = o; at = a }

same : (f f' : List Piece) (p : List ℕ) (o a a' : ℕ) → f ≡ f' → a ≡ a' → walk_of f p o a ≡ walk_of f' p o a'
same f f' p o a a' e q = ap (λ x. walk_of x p o a) e ∙ ap (λ x. walk_of f' p o x) q

-- one part behind another
pub then : (a b : List Piece) (n m : ℕ) (w : Walk) → behind b m (behind a n w) ≡ behind (a ++ b) (n + m) w
then a b n m w = same (w.found ++ a ++ b) (w.found ++ (a ++ b)) w.path w.origin (w.at + n + m) (w.at + (n + m)) (append_assoc w.found a b) (omega arith)

pub none : (w : Walk) → behind [] 0 w ≡ w
none w = same (w.found ++ []) w.found w.path w.origin (w.at + 0) w.at (append-nil w.found) (omega arith)

pub node_step : (align : ℕ) (form : Form) (d : Data) (w : Walk) → behind_form form d (behind_part Pad (padding align w.at) w) ≡ behind_node (node align form) d w
node_step align form d w = then (part w.path Pad (w.origin + w.at) (padding align w.at)) (form_pieces w.path form w.origin (w.at + padding align w.at) d) (padding align w.at) (form_length form (w.at + padding align w.at) d) w

pub sequence_step : (fs : Fields) (ps : Places) (w : Walk) → behind_fields 0 fs ps (behind_part Presence (length (presence_bits fs ps)) w) ≡ behind_sequence fs ps w
sequence_step fs ps w =
    let n = length (presence_bits fs ps) in
    then (part w.path Presence (w.origin + w.at) n) (field_pieces w.path 0 fs w.origin (w.at + n) ps) n (fields_length fs (w.at + n) ps) w

pub choice_step : (cases : Alternatives) (rule : ChoiceRule) (i : ℕ) (d : Data) (w : Walk) → behind_case cases i d (behind_part Index (index_width rule) w) ≡ behind_form (choice cases rule) (alt i d) w
choice_step cases rule i d w =
    let n = index_width rule in
    then (part w.path Index (w.origin + w.at) n) (case_pieces w.path i cases i w.origin (w.at + n) d) n (alternative_length cases i (w.at + n) d) w

-- Lists.

pub prefix_step : (sizing : Sizing) (low width : ℕ) (g : Grammar) (es : Elements) (w : Walk) → sizing.rule ≡ Prefix low width → behind_elements g 0 es (behind_part Size width w) ≡ behind_list sizing g es w
prefix_step sizing low width g es w e =
    rw e
    (then (part w.path Size (w.origin + w.at) width) (run_pieces (λ path at d. pieces path g w.origin at d) (bit_length g) w.path 0 (w.at + width) es) width (run_length (bit_length g) (w.at + width) es) w)

pub slot_step : (sizing : Sizing) (s : ℕ) (g : Grammar) (es : Elements) (w : Walk) → sizing.rule ≡ Slot s → behind_elements g 0 es w ≡ behind_list sizing g es w
slot_step sizing s g es w e = rw e (ap (λ n. behind (run_pieces (λ path at d. pieces path g w.origin at d) (bit_length g) w.path 0 n es) (run_length (bit_length g) n es) w) zero_more ∙ ap (λ n. behind (run_pieces (λ path at d. pieces path g w.origin at d) (bit_length g) w.path 0 (w.at + 0) es) n w) more_zero)
  where
    zero_more : w.at ≡ w.at + 0
    zero_more = omega arith

    more_zero : run_length (bit_length g) (w.at + 0) es ≡ 0 + run_length (bit_length g) (w.at + 0) es
    more_zero = omega arith

pub ended_step : (sizing : Sizing) (p : List Bool) (g : Grammar) (es : Elements) (w : Walk) → sizing.rule ≡ Ended p → behind_part Mark (length p) (behind_elements g 0 es w) ≡ behind_list sizing g es w
ended_step sizing p g es w e =
    rw e
    (then (run_pieces (λ path at d. pieces path g w.origin at d) (bit_length g) w.path 0 w.at es) (part w.path Mark (w.origin + (w.at + run_length (bit_length g) w.at es)) (length p)) (run_length (bit_length g) w.at es) (length p) w)

pub count_elements : (vs : List Value) → element_count (elements_view vs) ≡ length vs
count_elements [] = refl
count_elements (v ∷ vs) = ap suc (count_elements vs)

pub count_fields : (fs : List Field) → field_count (fields_view fs) ≡ length fs
count_fields [] = refl
count_fields (f ∷ fs) = by (field_of f) ∙ ap suc (count_fields fs)
  where
    by : (x : OneField) → field_count (with_field x (fields_view fs)) ≡ suc (field_count (fields_view fs))
    by (a_component name g presence default own) = refl
    by (an_inserted name g slot) = refl

-- Contents, whose window begins behind the size.

-- whole octets hold what they are counted for
octets_hold : (n : ℕ) → n ≤ 8 * octets_for n
octets_hold n = omega arith

pub contents_step : (sizing : Sizing) (g : Grammar) (d : Data) (w : Walk) (s m : ℕ) → s ≡ rule_width sizing.rule → m ≡ bit_length g 0 d
    → walk_of (w.found ++ part w.path Size (w.origin + w.at) s ++ pieces (w.path ++ 0 ∷ []) g (w.origin + (w.at + s)) 0 d ++ part w.path Fill (w.origin + (w.at + s) + m) (8 * octets_for m - m)) w.path w.origin (w.at + s + (m + (8 * octets_for m - m))) ≡ behind_contents sizing g d w
contents_step sizing g d w s m e q = rw (e, q) (same _ _ w.path w.origin _ _ pieces_are bits_are)
  where
    width : ℕ
    width = rule_width sizing.rule

    inner : ℕ
    inner = bit_length g 0 d

    front : List Piece
    front = part w.path Size (w.origin + w.at) width

    inside : List Piece
    inside = pieces (w.path ++ 0 ∷ []) g (w.origin + (w.at + width)) 0 d

    fill : List Piece
    fill = part w.path Fill (w.origin + (w.at + width) + inner) (8 * octets_for inner - inner)

    pieces_are : w.found ++ front ++ inside ++ fill ≡ w.found ++ (front ++ (inside ++ fill))
    pieces_are = append_assoc (w.found ++ front) inside fill ∙ append_assoc w.found front (inside ++ fill)

    bits_are : w.at + width + (inner + (8 * octets_for inner - inner)) ≡ w.at + (width + 8 * octets_for inner)
    bits_are = (let h = octets_hold inner in omega (arith, h))

-- Alternatives.

pub below : (a b : ℕ) → true ≡ ltb a b → a < b
below a b h = grind (arith, nat_tests)

pub case_at : (as' : List Alternative) (i j : ℕ) (a : Alternative) (d : Data) (w : Walk) → j < length as' → a ≡ get_or as' j a
    → behind (case_pieces w.path i (alternatives_view as') j w.origin w.at d) (alternative_length (alternatives_view as') j w.at d) w ≡ behind_inside (grammar_of a.node) i d w
case_at as' i j a d w h e = there as' j h ∙ ap (λ (x : Alternative). behind_inside (grammar_of x.node) i d w) (sym e)
  where
    there : (xs : List Alternative) (m : ℕ) → m < length xs → behind (case_pieces w.path i (alternatives_view xs) m w.origin w.at d) (alternative_length (alternatives_view xs) m w.at d) w ≡ behind_inside (grammar_of (get_or xs m a).node) i d w
    there [] m h = absurd (omega arith)
    there (x ∷ xs) zero h = ap (λ (g : Grammar). behind_inside g i d w) (alternative_of-grammar x)
    there (x ∷ xs) (suc m) h = there xs m (omega arith)

pub case_past : (as' : List Alternative) (i j : ℕ) (d : Data) (w : Walk) → length as' ≤ j → behind (case_pieces w.path i (alternatives_view as') j w.origin w.at d) (alternative_length (alternatives_view as') j w.at d) w ≡ w
case_past [] i j d w h = none w
case_past (x ∷ xs) i zero d w h = absurd (omega arith)
case_past (x ∷ xs) i (suc j) d w h = case_past xs i j d w (omega arith)

pub can_case : (k : ℕ) (as' : List Alternative) (j : ℕ) (a : Alternative) (d : Data) → j < length as' → a ≡ get_or as' j a → CanWalkCase k (alternatives_view as') j d → CanWalk k (grammar_of a.node) d
can_case k as' j a d h e c = subst (λ (x : Alternative). CanWalk k (grammar_of x.node) d) (sym e) (there as' j h c)
  where
    there : (xs : List Alternative) (m : ℕ) → m < length xs → CanWalkCase k (alternatives_view xs) m d → CanWalk k (grammar_of (get_or xs m a).node) d
    there [] m h c = absurd (omega arith)
    there (x ∷ xs) zero h c = subst (λ g. CanWalk k g d) (alternative_of-grammar x) c
    there (x ∷ xs) (suc m) h c = there xs m (omega arith) c

pub length_at : (as' : List Alternative) (j at : ℕ) (a : Alternative) (d : Data) → j < length as' → a ≡ get_or as' j a → alternative_length (alternatives_view as') j at d ≡ bit_length (grammar_of a.node) at d
length_at as' j at a d h e = there as' j h ∙ ap (λ (x : Alternative). bit_length (grammar_of x.node) at d) (sym e)
  where
    there : (xs : List Alternative) (m : ℕ) → m < length xs → alternative_length (alternatives_view xs) m at d ≡ bit_length (grammar_of (get_or xs m a).node) at d
    there [] m h = absurd (omega arith)
    there (x ∷ xs) zero h = ap (λ (g : Grammar). bit_length g at d) (alternative_of-grammar x)
    there (x ∷ xs) (suc m) h = there xs m (omega arith)

-- What is left of a loop.

-- the place behind what is left is that behind the whole
pub near_left : (f f' : List Piece) (n m : ℕ) (a b : Walk) → behind f n a ≡ behind f' m b → Near m b → Near n a
near_left f f' n m a b e h =
    let place : a.at + n ≡ b.at + m = ap (λ (w : Walk). w.at) e in
    let start : a.origin ≡ b.origin = ap (λ (w : Walk). w.origin) e in
    omega (arith, place, start, h)

pub path_left : (f f' : List Piece) (n m : ℕ) (a b : Walk) → behind f n a ≡ behind f' m b → a.path ≡ b.path
path_left f f' n m a b e = ap (λ (w : Walk). w.path) e

-- Elements.

pub element_can : (P : Data → Type 0) (vs : List Value) (i : ℕ) (v : Value) → i < length vs → v ≡ get_or vs i v → CanWalkEach P (elements_view (drop i vs)) → P (data_of v) × CanWalkEach P (elements_view (drop (i + 1) vs))
element_can P vs i v h e c =
    let t = subst (λ (xs : List Value). CanWalkEach P (elements_view xs)) (drop_more vs i v h) c in
    (subst (λ (x : Value). P (data_of x)) (sym e) t.0, t.1)

pub element_near : (g : Grammar) (vs : List Value) (i : ℕ) (v : Value) (w : Walk) → i < length vs → v ≡ get_or vs i v → Near (run_length (bit_length g) w.at (elements_view (drop i vs))) w → Near (bit_length g w.at (data_of v)) w
element_near g vs i v w h e k =
    let turned = subst (λ (xs : List Value). Near (run_length (bit_length g) w.at (elements_view xs)) w) (drop_more vs i v h) k in
    subst (λ (x : Value). Near (bit_length g w.at (data_of x)) w) (sym e) (front turned)
  where
    front : Near (run_length (bit_length g) w.at (elements_view (get_or vs i v ∷ drop (i + 1) vs))) w → Near (bit_length g w.at (data_of (get_or vs i v))) w
    front t = omega (arith, t)

pub element_turn : (g : Grammar) (vs : List Value) (i k : ℕ) (v : Value) (w : Walk) → i < length vs → v ≡ get_or vs i v
    → behind_elements g (k + 1) (elements_view (drop (i + 1) vs)) (behind_inside g k (data_of v) w) ≡ behind_elements g k (elements_view (drop i vs)) w
element_turn g vs i k v w h e =
    ap (λ n. behind_elements g n rest (behind_inside g k (data_of v) w)) (add-one k)
    ∙ (then (pieces (w.path ++ k ∷ []) g w.origin w.at (data_of v)) (run_pieces (λ path at d. pieces path g w.origin at d) (bit_length g) w.path (suc k) (w.at + bit_length g w.at (data_of v)) rest) (bit_length g w.at (data_of v)) (run_length (bit_length g) (w.at + bit_length g w.at (data_of v)) rest) w
    ∙ sym (ap (λ (xs : List Value). behind_elements g k (elements_view xs) w) (drop_more vs i v h) ∙ ap (λ (x : Value). behind_elements g k (element (data_of x) rest) w) (sym e)))
  where
    rest : Elements
    rest = elements_view (drop (i + 1) vs)

pub elements_over : (g : Grammar) (vs : List Value) (i k : ℕ) (w : Walk) → length vs ≤ i → behind_elements g k (elements_view (drop i vs)) w ≡ w
elements_over g vs i k w h = ap (λ (xs : List Value). behind_elements g k (elements_view xs) w) (drop_of_length-le vs h) ∙ none w

-- Fields.

pub fields_from : (fs : List Field) (i : ℕ) (f : Field) → i < length fs → f ≡ get_or fs i f → fields_view (drop i fs) ≡ with_field (field_of f) (fields_view (drop (i + 1) fs))
fields_from fs i f h e = ap fields_view (drop_more fs i f h) ∙ ap (λ (x : Field). with_field (field_of x) (fields_view (drop (i + 1) fs))) (sym e)

pub component_from : (fs : List Field) (i : ℕ) (f : Field) (name : List ℕ) (n : Node) (presence : OnePresence) (default : Option (List ℕ)) (own : Option ℕ) → i < length fs → f ≡ get_or fs i f → f ≡ Component name n presence default own
    → fields_view (drop i fs) ≡ component name (grammar_of n) presence default own (fields_view (drop (i + 1) fs))
component_from fs i f name n presence default own h e is =
    fields_from fs i f h e ∙ ap (λ x. with_field x (fields_view (drop (i + 1) fs))) (ap field_of is ∙ view_component name n presence default own)

pub inserted_from : (fs : List Field) (i : ℕ) (f : Field) (name : List ℕ) (n : Node) (slot : Option ℕ) → i < length fs → f ≡ get_or fs i f → f ≡ Inserted name n slot → fields_view (drop i fs) ≡ inserted name (grammar_of n) slot (fields_view (drop (i + 1) fs))
inserted_from fs i f name n slot h e is = fields_from fs i f h e ∙ ap (λ x. with_field x (fields_view (drop (i + 1) fs))) (ap field_of is ∙ view_inserted name n slot)

-- a place in front of the others
abbrev place_in_front : Option Data → Places → Places
place_in_front None ps = empty ps
place_in_front (Some d) ps = filled d ps

places_from : (ps : List (Option Value)) (k : ℕ) (p : Option Value) → k < length ps → p ≡ get_or ps k p → places_view (drop k ps) ≡ place_in_front (option_map data_of p) (places_view (drop (k + 1) ps))
places_from ps k p h e = ap places_view (drop_more ps k p h) ∙ (front (get_or ps k p) ∙ ap (λ (x : Option Value). place_in_front (option_map data_of x) (places_view (drop (k + 1) ps))) (sym e))
  where
    front : (x : Option Value) → places_view (x ∷ drop (k + 1) ps) ≡ place_in_front (option_map data_of x) (places_view (drop (k + 1) ps))
    front None = refl
    front (Some v) = refl

component_turn : (k : ℕ) (name : List ℕ) (g : Grammar) (presence : OnePresence) (default : Option (List ℕ)) (own : Option ℕ) (fs : Fields) (p : Option Data) (ps : Places) (w : Walk)
    → behind_fields (k + 1) fs ps (behind_place g k p w) ≡ behind_fields k (component name g presence default own fs) (place_in_front p ps) w
component_turn k name g presence default own fs None ps w = ap (λ n. behind_fields n fs ps w) (add-one k)
component_turn k name g presence default own fs (Some d) ps w =
    ap (λ n. behind_fields n fs ps (behind_inside g k d w)) (add-one k)
    ∙ then (pieces (w.path ++ k ∷ []) g w.origin w.at d) (field_pieces w.path (suc k) fs w.origin (w.at + bit_length g w.at d) ps) (bit_length g w.at d) (fields_length fs (w.at + bit_length g w.at d) ps) w

inserted_turn : (k : ℕ) (name : List ℕ) (g : Grammar) (slot : Option ℕ) (fs : Fields) (ps : Places) (w : Walk) → behind_fields (k + 1) fs ps (behind_inserted g k w) ≡ behind_fields k (inserted name g slot fs) ps w
inserted_turn k name g slot fs ps w =
    ap (λ n. behind_fields n fs ps (behind_inserted g k w)) (add-one k)
    ∙ then (inserted_pieces (w.path ++ k ∷ []) g w.origin w.at) (field_pieces w.path (suc k) fs w.origin (w.at + inserted_length g w.at) ps) (inserted_length g w.at) (fields_length fs (w.at + inserted_length g w.at) ps) w

-- no places are left
no_places_left : (k : ℕ) (name : List ℕ) (g : Grammar) (presence : OnePresence) (default : Option (List ℕ)) (own : Option ℕ) (fs : Fields) (w : Walk) → behind_fields k (component name g presence default own fs) no_places w ≡ w
no_places_left k name g presence default own fs w = none w

no_fields_left : (k : ℕ) (ps : Places) (w : Walk) → behind_fields k no_fields ps w ≡ w
no_fields_left k no_places w = none w
no_fields_left k (empty ps) w = none w
no_fields_left k (filled d ps) w = none w

pub fields_over : (fs : List Field) (i k : ℕ) (ps : Places) (w : Walk) → length fs ≤ i → behind_fields k (fields_view (drop i fs)) ps w ≡ w
fields_over fs i k ps w h = ap (λ (xs : List Field). behind_fields k (fields_view xs) ps w) (drop_of_length-le fs h) ∙ no_fields_left k ps w

place_near : (name : List ℕ) (g : Grammar) (presence : OnePresence) (default : Option (List ℕ)) (own : Option ℕ) (fs : Fields) (p : Option Data) (ps : Places) (w : Walk) → Near (fields_length (component name g presence default own fs) w.at (place_in_front p ps)) w → Near (place_length g w.at p) w
place_near name g presence default own fs None ps w h = omega (arith, h)
place_near name g presence default own fs (Some d) ps w h = omega (arith, h)

pub component_near : (fs : List Field) (ps : List (Option Value)) (i k : ℕ) (f : Field) (name : List ℕ) (n : Node) (presence : OnePresence) (default : Option (List ℕ)) (own : Option ℕ) (p : Option Value) (w : Walk) → i < length fs → k < length ps → f ≡ get_or fs i f → f ≡ Component name n presence default own → p ≡ get_or ps k p
    → Near (fields_length (fields_view (drop i fs)) w.at (places_view (drop k ps))) w → Near (place_length (grammar_of n) w.at (option_map data_of p)) w
component_near fs ps i k f name n presence default own p w h j e is q c =
    place_near name (grammar_of n) presence default own (fields_view (drop (i + 1) fs)) (option_map data_of p) (places_view (drop (k + 1) ps)) w
    (subst (λ x. Near (fields_length (component name (grammar_of n) presence default own (fields_view (drop (i + 1) fs))) w.at x) w) (places_from ps k p j q) (subst (λ x. Near (fields_length x w.at (places_view (drop k ps))) w) (component_from fs i f name n presence default own h e is) c))

pub inserted_near : (fs : List Field) (ps : Places) (i : ℕ) (f : Field) (name : List ℕ) (n : Node) (slot : Option ℕ) (w : Walk) → i < length fs → f ≡ get_or fs i f → f ≡ Inserted name n slot → Near (fields_length (fields_view (drop i fs)) w.at ps) w → Near (inserted_length (grammar_of n) w.at) w
inserted_near fs ps i f name n slot w h e is c = front (subst (λ x. Near (fields_length x w.at ps) w) (inserted_from fs i f name n slot h e is) c)
  where
    front : Near (fields_length (inserted name (grammar_of n) slot (fields_view (drop (i + 1) fs))) w.at ps) w → Near (inserted_length (grammar_of n) w.at) w
    front t = omega (arith, t)

-- a component is walked over
pub component_next : (fs : List Field) (ps : List (Option Value)) (i k step : ℕ) (f : Field) (name : List ℕ) (n : Node) (presence : OnePresence) (default : Option (List ℕ)) (own : Option ℕ) (p : Option Value) (w : Walk) → i < length fs → k < length ps → f ≡ get_or fs i f → f ≡ Component name n presence default own → p ≡ get_or ps k p
    → behind_fields (step + 1) (fields_view (drop (i + 1) fs)) (places_view (drop (k + 1) ps)) (behind_place (grammar_of n) step (option_map data_of p) w) ≡ behind_fields step (fields_view (drop i fs)) (places_view (drop k ps)) w
component_next fs ps i k step f name n presence default own p w h j e is q =
    component_turn step name (grammar_of n) presence default own (fields_view (drop (i + 1) fs)) (option_map data_of p) (places_view (drop (k + 1) ps)) w
    ∙ sym (ap (λ x. behind_fields step x (places_view (drop k ps)) w) (component_from fs i f name n presence default own h e is) ∙ ap (λ x. behind_fields step (component name (grammar_of n) presence default own (fields_view (drop (i + 1) fs))) x w) (places_from ps k p j q))

-- an inserted field is
pub inserted_next : (fs : List Field) (ps : Places) (i step : ℕ) (f : Field) (name : List ℕ) (n : Node) (slot : Option ℕ) (w : Walk) → i < length fs → f ≡ get_or fs i f → f ≡ Inserted name n slot
    → behind_fields (step + 1) (fields_view (drop (i + 1) fs)) ps (behind_inserted (grammar_of n) step w) ≡ behind_fields step (fields_view (drop i fs)) ps w
inserted_next fs ps i step f name n slot w h e is =
    inserted_turn step name (grammar_of n) slot (fields_view (drop (i + 1) fs)) ps w ∙ ap (λ x. behind_fields step x ps w) (sym (inserted_from fs i f name n slot h e is))

-- no place is left for a component
pub component_missing : (fs : List Field) (ps : List (Option Value)) (i k step : ℕ) (f : Field) (name : List ℕ) (n : Node) (presence : OnePresence) (default : Option (List ℕ)) (own : Option ℕ) (w : Walk) → i < length fs → length ps ≤ k → f ≡ get_or fs i f → f ≡ Component name n presence default own
    → behind_fields step (fields_view (drop i fs)) (places_view (drop k ps)) w ≡ w
component_missing fs ps i k step f name n presence default own w h j e is =
    ap (λ x. behind_fields step x (places_view (drop k ps)) w) (component_from fs i f name n presence default own h e is)
    ∙ (ap (λ (x : List (Option Value)). behind_fields step (component name (grammar_of n) presence default own (fields_view (drop (i + 1) fs))) (places_view x) w) (drop_of_length-le ps j) ∙ none w)

can_place : (k : ℕ) (name : List ℕ) (g : Grammar) (presence : OnePresence) (default : Option (List ℕ)) (own : Option ℕ) (fs : Fields) (p : Option Data) (ps : Places) → CanWalkFields k (component name g presence default own fs) (place_in_front p ps) → CanWalkPlace k g p × CanWalkFields k fs ps
can_place k name g presence default own fs None ps c = (tt, c)
can_place k name g presence default own fs (Some d) ps c = c

pub component_can : (depth : ℕ) (fs : List Field) (ps : List (Option Value)) (i k : ℕ) (f : Field) (name : List ℕ) (n : Node) (presence : OnePresence) (default : Option (List ℕ)) (own : Option ℕ) (p : Option Value) → i < length fs → k < length ps → f ≡ get_or fs i f → f ≡ Component name n presence default own → p ≡ get_or ps k p
    → CanWalkFields depth (fields_view (drop i fs)) (places_view (drop k ps)) → CanWalkPlace depth (grammar_of n) (option_map data_of p) × CanWalkFields depth (fields_view (drop (i + 1) fs)) (places_view (drop (k + 1) ps))
component_can depth fs ps i k f name n presence default own p h j e is q c =
    can_place depth name (grammar_of n) presence default own (fields_view (drop (i + 1) fs)) (option_map data_of p) (places_view (drop (k + 1) ps))
    (subst (λ x. CanWalkFields depth (component name (grammar_of n) presence default own (fields_view (drop (i + 1) fs))) x) (places_from ps k p j q) (subst (λ x. CanWalkFields depth x (places_view (drop k ps))) (component_from fs i f name n presence default own h e is) c))

pub inserted_can : (depth : ℕ) (fs : List Field) (ps : Places) (i : ℕ) (f : Field) (name : List ℕ) (n : Node) (slot : Option ℕ) → i < length fs → f ≡ get_or fs i f → f ≡ Inserted name n slot → CanWalkFields depth (fields_view (drop i fs)) ps → CanWalkField depth (grammar_of n) × CanWalkFields depth (fields_view (drop (i + 1) fs)) ps
inserted_can depth fs ps i f name n slot h e is c = subst (λ x. CanWalkFields depth x ps) (inserted_from fs i f name n slot h e is) c
