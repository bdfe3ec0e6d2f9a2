-- What a part of an accepted tree keeps, and those inside it.
use Rattle.std.proofs.Common.{◌≡◌, ℕ, suc, ◌≤◌, true, List, [], ◌∷◌, ◌++◌, length, Option, Some, None, IsTrue, refl, ap, subst, arith, length-append}
use Rattle.acn_grammar.specs.Grammar.{Grammar, Form, Fields, Data, node, num, octets, bits, text, seq, list, choice, contained, component}
use Rattle.acn_grammar.specs.Leaves.{num_fine, text_fine, list_fine}
use Rattle.acn_grammar.specs.Scoped.{Known}
use Rattle.acn_grammar.specs.Sound.{SaysSlot, OwnSound}
use Rattle.acn_grammar.specs.View.{with_field}
use Rattle.acn_grammar.specs.declared.node.NumLeaf.{NumLeaf}
use Rattle.acn_grammar.specs.declared.node.Presence.{Presence}
use Rattle.acn_grammar.specs.declared.node.Sizing.{Sizing}
use Rattle.acn_grammar.specs.declared.node.TextLeaf.{TextLeaf}
use Rattle.acn_num.specs.declared.limits.TheConstants.{MOST_STEPS}
use Rattle.acn_events.specs.Events.{own_events}
use Rattle.acn_plan.specs.Back.{Mark, StepAt, node_at, form_at, form_in, field_by}
use Rattle.acn_plan.specs.declared.step.Act.{Act}
use Rattle.acn_plan.specs.declared.step.Act.TheVariants as acts
use Rattle.acn_plan.specs.declared.step.Place.{Place}
use Rattle.acn_plan.specs.declared.step.Place.TheVariants as places
use Rattle.acn_plan.specs.declared.step.Step.{Step}
use Rattle.acn_plan.proofs.Marks.{node_is}
use Rattle.acn_pack.specs.Parts.{IsNumber, OwnIsNumber, IsString, says_string}
use Rattle.acn_pack.proofs.Levels.{not_number}
use Rattle.acn_pack.specs.Sounds.{IsSound, FormIsSound, FieldsAreSound}

module _ (root : Grammar) (k : ℕ) where
  -- a path to the node isn't too long
  pub depth_is : (g : Grammar) → IsSound root k g → k ≤ MOST_STEPS
  depth_is (node align form) s = s.is.1

  pub body_sound : (steps : List Step) (i : ℕ) (s : Step) → StepAt steps i s → IsSound root k (node_at steps i) → FormIsSound root k (form_at steps i s)
  body_sound steps i s h r = (let q : IsSound root k (node s.align (form_at steps i s)) = subst (λ (g : Grammar). IsSound root k g) (node_is steps i s h) r in record { around = q.around; known = q.known; is = q.is.2 })

  pub form_as : (form other : Form) → form ≡ other → FormIsSound root k form → FormIsSound root k other
  form_as form other e s = subst (λ (f : Form). FormIsSound root k f) e s

  pub num_is_fine : (leaf : NumLeaf) → FormIsSound root k (num leaf) → IsTrue (num_fine leaf)
  num_is_fine leaf s = s.is

  pub text_is_fine : (leaf : TextLeaf) → FormIsSound root k (text leaf) → IsTrue (text_fine leaf)
  text_is_fine leaf s = s.is.0

  pub string_is_fine : (a : Act) (next i : ℕ) (ms : List Mark) → says_string a ≡ true → FormIsSound root k (form_in a next i ms) → IsString a
  string_is_fine (acts.Octets sizing) next i ms e s = tt
  string_is_fine (acts.Bits sizing) next i ms e s = tt
  string_is_fine (acts.Text leaf) next i ms e s = text_is_fine leaf s
  string_is_fine (acts.Num leaf) next i ms e s = cc
  string_is_fine (acts.Seq home) next i ms e s = cc
  string_is_fine (acts.List sizing) next i ms e s = cc
  string_is_fine (acts.Choice cases) next i ms e s = cc
  string_is_fine (acts.Contained sizing) next i ms e s = cc

  pub list_is_fine : (sizing : Sizing) (g : Grammar) → FormIsSound root k (list sizing g) → IsTrue (list_fine sizing)
  list_is_fine sizing g s = s.is.0

  pub element_sound : (sizing : Sizing) (g : Grammar) → FormIsSound root k (list sizing g) → IsSound root (suc k) g
  element_sound sizing g s = record { around = s.around; known = s.known; is = s.is.4 }

  pub content_sound : (sizing : Sizing) (g : Grammar) → FormIsSound root k (contained sizing g) → IsSound root (suc k) g
  content_sound sizing g s = record { around = s.around; known = s.known; is = s.is.3 }

  pub fields_sound : (fs : Fields) (home : List ℕ) → FormIsSound root k (seq fs home) → FieldsAreSound root (suc k) fs
  fields_sound fs home s = record { around = _; known = _; are = s.is.1 }

  -- a node inside, behind a step that is put on the path
  pub deeper : (p q : List ℕ) (step : ℕ) (g : Grammar) → k ≡ length p → q ≡ p ++ step ∷ [] → IsSound root (suc k) g → IsSound root (length q) g
  deeper p q step g e f s =
      let l = length-append p (step ∷ []) in
      let long : suc k ≡ length q = (let m = ap length f in omega (arith, l, m, e)) in
      subst (λ (n : ℕ). IsSound root n g) long s

  -- The leaf of a number, whichever node it is.
  pub leaf_is_fine : (g : Grammar) (align : ℕ) (leaf : NumLeaf) → g ≡ node align (num leaf) → IsSound root k g → IsTrue (num_fine leaf)
  leaf_is_fine g align leaf e s = (let q : IsSound root k (node align (num leaf)) = subst (λ (x : Grammar). IsSound root k x) e s in q.is.2)

  -- A field and those behind it.

  pub head_sound : (p : Place) (g : Grammar) (fs : Fields) → FieldsAreSound root k (with_field (field_by p g) fs) → IsSound root k g
  head_sound (places.Component name presence default own) g fs s = record { around = s.around; known = s.known; is = s.are.3 }
  head_sound (places.Inserted name (Some slot)) g fs s = record { around = s.around; known = s.known; is = s.are.2 }
  head_sound (places.Inserted name None) g fs s = record { around = s.around; known = s.known; is = s.are.1 }
  head_sound places.Root g fs s = record { around = s.around; known = s.known; is = s.are.1 }
  head_sound (places.Alternative name tests item) g fs s = record { around = s.around; known = s.known; is = s.are.1 }
  head_sound places.Element g fs s = record { around = s.around; known = s.known; is = s.are.1 }
  head_sound places.Content g fs s = record { around = s.around; known = s.known; is = s.are.1 }

  pub rest_sound : (p : Place) (g : Grammar) (fs : Fields) → FieldsAreSound root k (with_field (field_by p g) fs) → FieldsAreSound root k fs
  rest_sound (places.Component name presence default own) g fs s = record { around = s.around; known = _; are = s.are.4 }
  rest_sound (places.Inserted name (Some slot)) g fs s = record { around = s.around; known = _; are = s.are.3 }
  rest_sound (places.Inserted name None) g fs s = record { around = s.around; known = s.known; are = s.are.2 }
  rest_sound places.Root g fs s = record { around = s.around; known = s.known; are = s.are.2 }
  rest_sound (places.Alternative name tests item) g fs s = record { around = s.around; known = s.known; are = s.are.2 }
  rest_sound places.Element g fs s = record { around = s.around; known = s.known; are = s.are.2 }
  rest_sound places.Content g fs s = record { around = s.around; known = s.known; are = s.are.2 }

  says_number : (around : List ℕ) (ks : Known) (s : ℕ) (g : Grammar) → SaysSlot root around ks s g → IsNumber g
  says_number around ks s (node align (num leaf)) h = tt
  says_number around ks s (node align (octets sizing)) h = absurd h
  says_number around ks s (node align (bits sizing)) h = absurd h
  says_number around ks s (node align (text leaf)) h = absurd h
  says_number around ks s (node align (seq fs home)) h = absurd h
  says_number around ks s (node align (list sizing g)) h = absurd h
  says_number around ks s (node align (choice cases rule)) h = absurd h
  says_number around ks s (node align (contained sizing g)) h = absurd h

  own_number : (around : List ℕ) (ks : Known) (own : Option ℕ) (presence : Presence) (g : Grammar) → OwnSound root around ks own presence g → OwnIsNumber own g
  own_number around ks None presence g h = tt
  own_number around ks (Some s) presence g h = says_number around ks s g h.1

  -- the number of a component is a slot's only where it is a number
  pub own_is_number : (name : List ℕ) (g : Grammar) (presence : Presence) (default : Option (List ℕ)) (own : Option ℕ) (fs : Fields) → FieldsAreSound root k (component name g presence default own fs) → OwnIsNumber own g
  own_is_number name g presence default own fs s = own_number s.around s.known own presence g s.are.1

-- what is no number has no number of its own
pub no_own : (slot : Option ℕ) (steps : List Step) (i : ℕ) (s : Step) (path : List ℕ) (d : Data) → StepAt steps i s → OwnIsNumber slot (node_at steps i) → ((leaf : NumLeaf) → s.act ≡ acts.Num leaf → ⊥) → own_events path slot (node_at steps i) d ≡ []
no_own None steps i s path d h own none = refl
no_own (Some n) steps i s path d h own none = absurd (not_number steps i s h own none)
