-- What the calls of the walk leave and want, one behind another.
use Rattle.std.proofs.Common.{◌≡◌, ℕ, suc, ◌+◌, ◌-◌, ◌*◌, ◌^◌, ◌≤◌, Bool, List, [], ◌∷◌, ◌++◌, length, drop, Option, Some, None, refl, sym, ap, subst, ◌∙◌, arith, rules}
use Rattle.std.specs.Prelude.{Result, Ok, Err, OnOk}
use Rattle.acn_num.specs.Bits.{octets as octets_for}
use Rattle.acn_grammar.specs.Grammar.{Grammar, Form, Fields, Alternatives, Data, Places, Elements, node, choice, contained, alt}
use Rattle.acn_grammar.specs.Length.{padding, num_length, least, bit_length, form_length, fields_length, alternative_length, run_length, list_length, rule_width, index_width, presence_bits, ending}
use Rattle.acn_grammar.specs.View.{grammar_of, form_of}
use Rattle.acn_grammar.specs.declared.node.ChoiceRule.{ChoiceRule}
use Rattle.acn_grammar.specs.declared.node.Node.{Node}
use Rattle.acn_grammar.specs.declared.node.NumLeaf.{NumLeaf}
use Rattle.acn_grammar.specs.declared.node.Sizing.{Sizing}
use Rattle.acn_grammar.specs.declared.node.SizeRule.TheVariants.{Prefix, Slot, Ended}
use Rattle.acn_pieces.proofs.Views.{view_node}
use Rattle.acn_pieces.specs.declared.piece.PieceKind.{PieceKind}
use Rattle.acn_pieces.specs.declared.piece.PieceKind.TheVariants.{Pad, Presence, Size, Index, Leaf, Mark, Fill}
use Rattle.acn_pieces.specs.declared.walk.Walk.{Walk}
use Rattle.acn_pieces.specs.CanWalk.{CanWalk, CanWalkForm}
use Rattle.acn_pieces.specs.Pieces.{part}
use Rattle.acn_pieces.specs.Walking.{Near, behind_part, behind_code, behind_node, behind_form, behind_fields, behind_sequence, sequence_length, behind_elements, behind_list, behind_case, behind_choice, behind_inside, behind_contents}
use Rattle.acn_pieces.proofs.Steps.{then, node_step, sequence_step, choice_step, prefix_step, slot_step, ended_step, contents_step}

-- what holds on Ok
pub on_ok : {A B E : Type 0} (r : Result (Unit {0}) E) → OnOk r A → (A → B) → OnOk r B
on_ok (Ok u) a f = f a
on_ok (Err e) a f = tt

-- Behind a part.

pub path_same : (kind : PieceKind) (n : ℕ) (w w1 : Walk) → w1 ≡ behind_part kind n w → w1.path ≡ w.path
path_same kind n w w1 e = ap (λ (x : Walk). x.path) e

pub at_behind : (kind : PieceKind) (n : ℕ) (w w1 : Walk) → w1 ≡ behind_part kind n w → w1.at ≡ w.at + n
at_behind kind n w w1 e = ap (λ (x : Walk). x.at) e

-- Of a length that is told by the place, what is left is near.
pub near_behind : (kind : PieceKind) (n : ℕ) (size : ℕ → ℕ) (w w1 : Walk) → w1 ≡ behind_part kind n w → Near (n + size (w.at + n)) w → Near (size w1.at) w1
near_behind kind n size w w1 e h = subst (λ (x : Walk). Near (size x.at) x) (sym e) (omega (arith, h))

-- A number that isn't in the value.

pub code_done : (align : ℕ) (leaf : NumLeaf) (pad n : ℕ) (w w1 w2 : Walk) → pad ≡ padding align w.at → n ≡ num_length leaf (least leaf.set) → w1 ≡ behind_part Pad pad w → w2 ≡ behind_part Leaf n w1 → w2 ≡ behind_code align leaf w
code_done align leaf pad n w w1 w2 is long e f =
    f
    ∙ (ap (behind_part Leaf n) (e ∙ ap (λ (k : ℕ). behind_part Pad k w) is)
    ∙ (ap (λ (k : ℕ). behind_part Leaf k (behind_part Pad (padding align w.at) w)) long
    ∙ then (part w.path Pad (w.origin + w.at) (padding align w.at)) (part w.path Leaf (w.origin + (w.at + padding align w.at)) (num_length leaf (least leaf.set))) (padding align w.at) (num_length leaf (least leaf.set)) w))

-- Nodes.

module _ (n : Node) (d : Data) (pad : ℕ) (w w1 : Walk) (is : pad ≡ padding n.align w.at) (e : w1 ≡ behind_part Pad pad w) where
  pub node_done : (w2 : Walk) → w2 ≡ behind_form (form_of n.body) d w1 → w2 ≡ behind_node (grammar_of n) d w
  node_done w2 f =
      f ∙ (ap (behind_form (form_of n.body) d) (e ∙ ap (λ (k : ℕ). behind_part Pad k w) is) ∙ (node_step n.align (form_of n.body) d w ∙ ap (λ (g : Grammar). behind_node g d w) (sym (view_node n))))

  pub node_can : CanWalk (length w.path) (grammar_of n) d → CanWalkForm (length w1.path) (form_of n.body) d
  node_can c =
      let opened = subst (λ (g : Grammar). CanWalk (length w.path) g d) (view_node n) c in
      subst (λ (p : List ℕ). CanWalkForm (length p) (form_of n.body) d) (sym (path_same Pad pad w w1 e)) opened.2

  pub node_near : Near (bit_length (grammar_of n) w.at d) w → Near (form_length (form_of n.body) w1.at d) w1
  node_near h =
      let opened = subst (λ (g : Grammar). Near (bit_length g w.at d) w) (view_node n) h in
      near_behind Pad pad (λ at. form_length (form_of n.body) at d) w w1 e (subst (λ (k : ℕ). Near (k + form_length (form_of n.body) (w.at + k) d) w) (sym is) opened)

-- SEQUENCEs.

module _ (fs : Fields) (ps : Places) (n : ℕ) (w w1 : Walk) (is : n ≡ length (presence_bits fs ps)) (e : w1 ≡ behind_part Presence n w) where
  pub sequence_done : (w2 : Walk) → w2 ≡ behind_fields 0 fs ps w1 → w2 ≡ behind_sequence fs ps w
  sequence_done w2 f = f ∙ (ap (behind_fields 0 fs ps) (e ∙ ap (λ (k : ℕ). behind_part Presence k w) is) ∙ sequence_step fs ps w)

  pub sequence_near : Near (sequence_length fs w.at ps) w → Near (fields_length fs w1.at ps) w1
  sequence_near h = near_behind Presence n (λ at. fields_length fs at ps) w w1 e (subst (λ (k : ℕ). Near (k + fields_length fs (w.at + k) ps) w) (sym is) h)

-- CHOICEs.

module _ (cases : Alternatives) (rule : ChoiceRule) (i : ℕ) (d : Data) (n : ℕ) (w w1 : Walk) (is : n ≡ index_width rule) (e : w1 ≡ behind_part Index n w) where
  pub choice_done : (w2 : Walk) → w2 ≡ behind_case cases i d w1 → w2 ≡ behind_choice cases rule i d w
  choice_done w2 f = f ∙ (ap (behind_case cases i d) (e ∙ ap (λ (k : ℕ). behind_part Index k w) is) ∙ choice_step cases rule i d w)

  pub choice_near : Near (index_width rule + alternative_length cases i (w.at + index_width rule) d) w → Near (alternative_length cases i w1.at d) w1
  choice_near h = near_behind Index n (λ at. alternative_length cases i at d) w w1 e (subst (λ (k : ℕ). Near (k + alternative_length cases i (w.at + k) d) w) (sym is) h)

-- Lists.

module _ (sizing : Sizing) (g : Grammar) (es : Elements) (w : Walk) where
  pub prefix_done : (low width : ℕ) (w1 w2 : Walk) → sizing.rule ≡ Prefix low width → w1 ≡ behind_part Size width w → w2 ≡ behind_elements g 0 es w1 → w2 ≡ behind_list sizing g es w
  prefix_done low width w1 w2 r e f = f ∙ (ap (behind_elements g 0 es) e ∙ prefix_step sizing low width g es w r)

  pub prefix_near : (low width : ℕ) (w1 : Walk) → sizing.rule ≡ Prefix low width → w1 ≡ behind_part Size width w → Near (list_length (ending sizing.rule) sizing.rule (bit_length g) w.at es) w → Near (run_length (bit_length g) w1.at es) w1
  prefix_near low width w1 r e h = near_behind Size width (λ at. run_length (bit_length g) at es) w w1 e (rw r at h)

  pub slot_done : (s : ℕ) (w1 : Walk) → sizing.rule ≡ Slot s → w1 ≡ behind_elements g 0 es w → w1 ≡ behind_list sizing g es w
  slot_done s w1 r e = e ∙ slot_step sizing s g es w r

  pub slot_near : (s : ℕ) → sizing.rule ≡ Slot s → Near (list_length (ending sizing.rule) sizing.rule (bit_length g) w.at es) w → Near (run_length (bit_length g) w.at es) w
  slot_near s r h = near (w.at + 0) (omega arith) (rw r at h)
    where
      near : (at : ℕ) → at ≡ w.at → w.origin + (w.at + (0 + run_length (bit_length g) at es)) ≤ 2 ^ 40 → Near (run_length (bit_length g) w.at es) w
      near at e k = (let moved = subst (λ (x : ℕ). w.origin + (w.at + (0 + run_length (bit_length g) x es)) ≤ 2 ^ 40) e k in omega (arith, moved))

  pub ended_done : (p : List Bool) (w1 w2 : Walk) → sizing.rule ≡ Ended p → w1 ≡ behind_elements g 0 es w → w2 ≡ behind_part Mark (length p) w1 → w2 ≡ behind_list sizing g es w
  ended_done p w1 w2 r e f = f ∙ (ap (behind_part Mark (length p)) e ∙ ended_step sizing p g es w r)

  pub ended_near : (p : List Bool) → sizing.rule ≡ Ended p → Near (list_length (ending sizing.rule) sizing.rule (bit_length g) w.at es) w → Near (run_length (bit_length g) w.at es) w
  ended_near p r h = (let k = rw r at h in omega (arith, k))

  pub mark_near : (p : List Bool) (w1 : Walk) → sizing.rule ≡ Ended p → w1 ≡ behind_elements g 0 es w → Near (list_length (ending sizing.rule) sizing.rule (bit_length g) w.at es) w → Near (length p) w1
  mark_near p w1 r e h = (let k = rw r at h in subst (λ (x : Walk). Near (length p) x) (sym e) (omega (arith, k)))

-- Contents.

-- the walk in a window that begins where it is
abbrev pub window : Walk → Walk
window w = record { found = w.found; path = w.path; origin = w.origin + w.at; at = 0 }

-- the walk behind the window, which had begun at another
abbrev pub back_at : Walk → Walk → Walk
back_at w1 w3 = record { found = w3.found; path = w3.path; origin = w1.origin; at = w1.at + w3.at }

abbrev filled : Walk → Walk
filled w2 = behind_part Fill (8 * octets_for w2.at - w2.at) w2

module _ (sizing : Sizing) (g : Grammar) (d : Data) (n : ℕ) (w w1 : Walk) (is : n ≡ rule_width sizing.rule) (e : w1 ≡ behind_part Size n w) where
  pub contents_done : (f : ℕ) (w2 w3 : Walk) → w2 ≡ behind_inside g 0 d (window w1) → f ≡ 8 * octets_for w2.at - w2.at → w3 ≡ behind_part Fill f w2 → back_at w1 w3 ≡ behind_contents sizing g d w
  contents_done f w2 w3 q r s =
      ap (back_at w1) (s ∙ ap (λ (k : ℕ). behind_part Fill k w2) r)
      ∙ (ap (λ (x : Walk). back_at w1 (filled x)) q
      ∙ (ap (λ (x : Walk). back_at x (filled (behind_inside g 0 d (window x)))) e ∙ contents_step sizing g d w n (0 + bit_length g 0 d) is (omega arith)))

  octets_hold : (k : ℕ) → k ≤ 8 * octets_for k
  octets_hold k = omega arith

  near_sum : Near (rule_width sizing.rule + 8 * octets_for (bit_length g 0 d)) w → w1.origin + (w1.at + 8 * octets_for (bit_length g 0 d)) ≤ 2 ^ 40
  near_sum h =
      let start = ap (λ (x : Walk). x.origin) e in
      let place = at_behind Size n w w1 e in
      omega (arith, start, place, is, h)

  pub window_near : Near (rule_width sizing.rule + 8 * octets_for (bit_length g 0 d)) w → Near (bit_length g 0 d) (window w1)
  window_near h =
      let sum = near_sum h in
      let hold = octets_hold (bit_length g 0 d) in
      omega (arith, sum, hold)

  pub fill_near : (f : ℕ) (w2 : Walk) → w2 ≡ behind_inside g 0 d (window w1) → f ≡ 8 * octets_for w2.at - w2.at → Near (rule_width sizing.rule + 8 * octets_for (bit_length g 0 d)) w → Near f w2
  fill_near f w2 q r h =
      let sum = near_sum h in
      let hold = octets_hold (bit_length g 0 d) in
      let start = ap (λ (x : Walk). x.origin) q in
      let place : w2.at ≡ bit_length g 0 d = ap (λ (x : Walk). x.at) q ∙ zero_less (bit_length g 0 d) in
      let fill : f ≡ 8 * octets_for (bit_length g 0 d) - bit_length g 0 d = r ∙ ap (λ (k : ℕ). 8 * octets_for k - k) place in
      omega (arith, sum, hold, start, place, fill)
    where
      zero_less : (k : ℕ) → 0 + k ≡ k
      zero_less k = omega arith
