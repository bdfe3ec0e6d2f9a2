-- The steps to a field, one part behind another.
use Rattle.std.proofs.Common.{◌≡◌, ℕ, suc, Bool, true, false, List, [], ◌∷◌, ◌++◌, length, drop, get_or, Option, Some, None, option_map, refl, sym, ap, ◌∙◌, append_assoc, append-nil, if◌then◌else◌, nat_eq, ◌<◌, ◌≤◌, ◌+◌, add-one, ltb, arith}
use Rattle.std.specs.Prelude.{is_some, unwrap_or, MatchOption}
use Rattle.std.proofs.lemmas.List.{drop_more, same_from_push}
use Rattle.std.proofs.lemmas.Bool.Decides.{nat_tests}
use Rattle.acn_events.specs.Located.{behind, here, form_here, in_some, located}
use Rattle.acn_grammar.specs.Asks.{at_slot, field_steps, steps_to, form_steps, or_else}
use Rattle.acn_grammar.specs.Grammar.{Grammar, Form, Fields, node, seq}
use Rattle.acn_grammar.specs.Tree.{holds}
use Rattle.acn_plan.specs.Back.{Mark, StepAt, put_field, form_in, marks, node_at, form_at, fields_at}
use Rattle.acn_plan.specs.declared.step.Act.{Act}
use Rattle.acn_plan.specs.declared.step.Act.TheVariants as acts
use Rattle.acn_plan.specs.declared.step.Place.{Place}
use Rattle.acn_plan.specs.declared.step.Place.TheVariants as places
use Rattle.acn_plan.specs.declared.step.Step.{Step}
use Rattle.acn_plan.proofs.Marks.{node_is, fields_more, fields_none}
use Rattle.acn_step_breach.proofs.Levels.{form_by}
use Rattle.acn_step_fields.specs.Sought.{field_steps_by, is_sequence}

-- One of two.

pub found_first : (x y : Option (List ℕ)) → is_some x ≡ true → or_else x y ≡ x
found_first None y e = cc
found_first (Some f) y e = refl

pub found_later : (x y : Option (List ℕ)) → is_some x ≡ false → or_else x y ≡ y
found_later None y e = refl
found_later (Some f) y e = cc

-- where nothing is found the path stays
pub stays : (at : List ℕ) (x : Option (List ℕ)) → is_some x ≡ false → behind at x at ≡ at
stays at None e = refl
stays at (Some f) e = cc

-- one step more in front
pub one_more : (at other : List ℕ) (k : ℕ) (x : Option (List ℕ)) → is_some x ≡ true → behind (at ++ k ∷ []) x other ≡ behind at (option_map (λ f. k ∷ f) x) at
one_more at other k None e = cc
one_more at other k (Some f) e = append_assoc at (k ∷ []) f

pub same_found : (k : ℕ) (x : Option (List ℕ)) → is_some (option_map (λ (f : List ℕ). k ∷ f) x) ≡ is_some x
same_found k None = refl
same_found k (Some f) = refl

-- the test of a field's own slot

pub sought : (b : Bool) (f : List ℕ) (x o : Option (List ℕ)) → o ≡ (if b then Some f else x) → b ≡ true → o ≡ Some f
sought true f x o e h = e
sought false f x o e h = cc

pub not_sought : (b : Bool) (f : List ℕ) (x o : Option (List ℕ)) → o ≡ (if b then Some f else x) → b ≡ false → o ≡ x
not_sought true f x o e h = cc
not_sought false f x o e h = e

-- a step that is put at the end and taken away again
pub put_back : (o : Option ℕ) (old new path : List ℕ) (k : ℕ) → MatchOption o ((old ≡ []) × (new ≡ [])) (λ step. old ≡ new ++ step ∷ []) → old ≡ path ++ k ∷ [] → new ≡ path
put_back None old new path k h e = absurd (longer path k (sym (sym e ∙ h.0)))
  where
    longer : (xs : List ℕ) (y : ℕ) → [] ≡ xs ++ y ∷ [] → ⊥
    longer [] y e = cc
    longer (x ∷ xs) y e = cc
put_back (Some step) old new path k h e = (same_from_push new path step k (sym h ∙ e)).0

-- One field in front of others.

test_else : (b : Bool) (f : List ℕ) (x y : Option (List ℕ)) → (if b then Some f else or_else x y) ≡ or_else (if b then Some f else x) y
test_else true f x y = refl
test_else false f x y = refl

slot_else : (own : Option ℕ) (s : ℕ) (f : List ℕ) (x y : Option (List ℕ)) → at_slot own s f (or_else x y) ≡ or_else (at_slot own s f x) y
slot_else None s f x y = refl
slot_else (Some t) s f x y = test_else (nat_eq t s) f x y

pub field_more : (p : Place) (g : Grammar) (fs : Fields) (k s : ℕ) → field_steps (put_field p g fs) k s ≡ or_else (field_steps_by p g k s) (field_steps fs (suc k) s)
field_more (places.Component name presence default own) g fs k s = slot_else own s (k ∷ []) (option_map (λ steps. k ∷ steps) (steps_to g s)) (field_steps fs (suc k) s)
field_more (places.Inserted name slot) g fs k s = slot_else slot s (k ∷ []) None (field_steps fs (suc k) s)
field_more places.Root g fs k s = refl
field_more (places.Alternative name tests item) g fs k s = refl
field_more places.Element g fs k s = refl
field_more places.Content g fs k s = refl

-- the fields from a step on
pub step_more : (steps : List Step) (k end : ℕ) (s : Step) (n slot : ℕ) → StepAt steps k s → k < end → k < s.next
    → field_steps (fields_at steps k end) n slot ≡ or_else (field_steps_by s.place (node_at steps k) n slot) (field_steps (fields_at steps s.next end) (n + 1) slot)
step_more steps k end s n slot is less up =
    ap (λ (fs : Fields). field_steps fs n slot) (fields_more steps k end s is less up)
    ∙ (field_more s.place (node_at steps k) (fields_at steps s.next end) n slot
    ∙ ap (λ (m : ℕ). or_else (field_steps_by s.place (node_at steps k) n slot) (field_steps (fields_at steps s.next end) m slot)) (sym (add-one n)))

pub step_none : (steps : List Step) (k end n slot : ℕ) → end ≤ k → field_steps (fields_at steps k end) n slot ≡ None
step_none steps k end n slot le = ap (λ (fs : Fields). field_steps fs n slot) (fields_none steps k end le)

-- From a node to its form.

pub steps_by : (g : Grammar) (align : ℕ) (form other : Form) (s : ℕ) → g ≡ node align form → form ≡ other → form_steps other s ≡ steps_to g s
steps_by g align form other s e f = ap (λ (x : Form). form_steps x s) (sym f) ∙ ap (λ (x : Grammar). steps_to x s) (sym e)

pub here_by : (g : Grammar) (align : ℕ) (form other : Form) (s : ℕ) → g ≡ node align form → form ≡ other → form_here other s ≡ here g s
here_by g align form other s e f = ap (λ (x : Form). form_here x s) (sym f) ∙ ap (λ (x : Grammar). here x s) (sym e)

pub home_is : (fs : Fields) (home : List ℕ) (s : ℕ) → holds home s ≡ true → form_here (seq fs home) s ≡ Some (unwrap_or (field_steps fs 0 s) [])
home_is fs home s e = rw e refl

pub not_home : (fs : Fields) (home : List ℕ) (s : ℕ) → holds home s ≡ false → form_here (seq fs home) s ≡ None
not_home fs home s e = rw e refl

pub behind_home : (at : List ℕ) (x : Option (List ℕ)) → behind at x at ≡ behind at (Some (unwrap_or x [])) at
behind_home at None = sym (append-nil at)
behind_home at (Some f) = refl

-- a step that is no SEQUENCE's holds no field
pub no_steps : (a : Act) (next n : ℕ) (ms : List Mark) (s : ℕ) → is_sequence a ≡ false → form_steps (form_in a next n ms) s ≡ None
no_steps (acts.Seq home) next n ms s e = cc
no_steps (acts.Num leaf) next n ms s e = refl
no_steps (acts.Octets sizing) next n ms s e = refl
no_steps (acts.Bits sizing) next n ms s e = refl
no_steps (acts.Text leaf) next n ms s e = refl
no_steps (acts.List sizing) next n ms s e = refl
no_steps (acts.Choice cases) next n ms s e = refl
no_steps (acts.Contained sizing) next n ms s e = refl

pub no_here : (a : Act) (next n : ℕ) (ms : List Mark) (s : ℕ) → is_sequence a ≡ false → form_here (form_in a next n ms) s ≡ None
no_here (acts.Seq home) next n ms s e = cc
no_here (acts.Num leaf) next n ms s e = refl
no_here (acts.Octets sizing) next n ms s e = refl
no_here (acts.Bits sizing) next n ms s e = refl
no_here (acts.Text leaf) next n ms s e = refl
no_here (acts.List sizing) next n ms s e = refl
no_here (acts.Choice cases) next n ms s e = refl
no_here (acts.Contained sizing) next n ms s e = refl

-- the same of a step
pub step_without : (steps : List Step) (i : ℕ) (s : Step) (slot : ℕ) → StepAt steps i s → is_sequence s.act ≡ false → steps_to (node_at steps i) slot ≡ None
step_without steps i s slot is e = ap (λ (x : Grammar). steps_to x slot) (node_is steps i s is) ∙ no_steps s.act s.next (i + 1) (marks (i + 1) (drop (i + 1) steps)) slot e

pub step_with : (steps : List Step) (i : ℕ) (s : Step) (slot : ℕ) (home : List ℕ) → StepAt steps i s → s.act ≡ acts.Seq home → field_steps (fields_at steps (i + 1) s.next) 0 slot ≡ steps_to (node_at steps i) slot
step_with steps i s slot home is e = steps_by (node_at steps i) s.align (form_at steps i s) (seq (fields_at steps (i + 1) s.next) home) slot (node_is steps i s is) (form_by steps i s (acts.Seq home) e)

pub here_without : (steps : List Step) (i : ℕ) (s : Step) (slot : ℕ) → StepAt steps i s → is_sequence s.act ≡ false → here (node_at steps i) slot ≡ None
here_without steps i s slot is e = ap (λ (x : Grammar). here x slot) (node_is steps i s is) ∙ no_here s.act s.next (i + 1) (marks (i + 1) (drop (i + 1) steps)) slot e

pub here_with : (steps : List Step) (i : ℕ) (s : Step) (slot : ℕ) (home : List ℕ) → StepAt steps i s → s.act ≡ acts.Seq home → form_here (seq (fields_at steps (i + 1) s.next) home) slot ≡ here (node_at steps i) slot
here_with steps i s slot home is e = here_by (node_at steps i) s.align (form_at steps i s) (seq (fields_at steps (i + 1) s.next) home) slot (node_is steps i s is) (form_by steps i s (acts.Seq home) e)

-- Along a path.

pub part_is : (o : Option Grammar) (inside : Grammar) (path : List ℕ) (s : ℕ) → Some inside ≡ o → in_some o (λ x. located x path s) ≡ located inside path s
part_is None inside path s e = cc
part_is (Some x) inside path s e = (let q : inside ≡ x = some_is inside x e in ap (λ (y : Grammar). located y path s) (sym q))
  where
    some_is : (a b : Grammar) → Some a ≡ Some b → a ≡ b
    some_is a b e = cc

pub no_part : (o : Option Grammar) (path : List ℕ) (s : ℕ) → None ≡ o → in_some o (λ x. located x path s) ≡ None
no_part None path s e = refl
no_part (Some x) path s e = cc

pub below : (a b : ℕ) → true ≡ ltb a b → a < b
below a b h = grind (arith, nat_tests)

pub step_there : (path : List ℕ) (i k : ℕ) → i < length path → k ≡ get_or path i k → drop i path ≡ k ∷ drop (i + 1) path
step_there path i k h e = drop_more path i k h ∙ ap (λ (x : ℕ). x ∷ drop (i + 1) path) (sym e)
