-- The field that is met for a slot is the slot's.
use Rattle.std.proofs.Common.{◌≡◌, ℕ, suc, ◌≤◌, Bool, true, false, not, ◌&&◌, ◌||◌, List, [], ◌∷◌, ◌++◌, Option, Some, None, is_some, option_map, nat_eq, refl, sym, ap, subst, ◌∙◌, arith, true≢false}
use Rattle.std.specs.Prelude.{if◌then◌else◌, map, Result, Ok, Err, IfOk}
use Rattle.std.specs.List.{AllByRecursion}
use Rattle.std.proofs.lemmas.Bool.{eqb-true}
use Rattle.acn_grammar.specs.Asks.{field_steps, steps_to, at_slot, or_else}
use Rattle.acn_grammar.specs.Grammar.{Grammar, Form, Fields, node, num, octets, bits, text, seq, list, choice, contained, no_fields, component, inserted}
use Rattle.acn_grammar.specs.Scoped.{Known, with_slot, with_own, choose_known, after, fields_after}
use Rattle.acn_grammar.specs.Slots.{first_of_two, slot_leaf}
use Rattle.acn_grammar.specs.Sound.{Sound, FormSound, FieldsSound, SaysSlot}
use Rattle.acn_grammar.specs.Tree.{holds}
use Rattle.acn_grammar.specs.declared.node.NumLeaf.{NumLeaf}
use Rattle.acn_grammar.specs.declared.node.Presence.{Presence}
use Rattle.acn_grammar.specs.declared.node.Presence.TheVariants.{Always, Bit, When}
use Rattle.acn_determinants.specs.Determinants.{SequenceIn, IsNumber, IsLeafIn, steps_of, spot_told}
use Rattle.acn_determinants.specs.Spots.{Spot, under, here_or, spot_in, field_spot, at, Reached, FormReached, FieldsReached}
use Rattle.acn_determinants.specs.declared.homes.Determinant.{Determinant}

-- The steps are those of the definition.

here_steps : (own : Option ℕ) (s : ℕ) (k : ℕ) (g : Grammar) (x : Option Spot) (y : Option (List ℕ)) → option_map (λ x. x.steps) x ≡ y → option_map (λ (z : Spot). z.steps) (here_or own s (at k g) x) ≡ at_slot own s (k ∷ []) y
here_steps None s k g x y e = e
here_steps (Some t) s k g x y e = by (nat_eq t s)
  where
    by : (b : Bool) → option_map (λ (z : Spot). z.steps) (if b then Some (at k g) else x) ≡ (if b then Some (k ∷ []) else y)
    by true = refl
    by false = e

either_steps : (k : ℕ) (a b : Option Spot) (c d : Option (List ℕ)) → option_map (λ x. x.steps) a ≡ c → option_map (λ x. x.steps) b ≡ d
    → option_map (λ (z : Spot). z.steps) (first_of_two (option_map (under (k ∷ [])) a) b) ≡ or_else (option_map (λ steps. k ∷ steps) c) d
either_steps k None b c d e f = rw (← e) f
either_steps k (Some x) b c d e f = rw (← e) refl

mutual
  node_steps : (g : Grammar) (s : ℕ) → option_map (λ x. x.steps) (spot_in g s) ≡ steps_to g s
  node_steps (node align (seq fields home)) s = fields_steps fields 0 s
  node_steps (node align (num leaf)) s = refl
  node_steps (node align (octets sizing)) s = refl
  node_steps (node align (bits sizing)) s = refl
  node_steps (node align (text leaf)) s = refl
  node_steps (node align (list sizing g)) s = refl
  node_steps (node align (choice cases rule)) s = refl
  node_steps (node align (contained sizing g)) s = refl

  pub fields_steps : (fs : Fields) (k s : ℕ) → option_map (λ x. x.steps) (field_spot fs k s) ≡ field_steps fs k s
  fields_steps no_fields k s = refl
  fields_steps (component name g presence default own fs) k s = here_steps own s k g _ _ (either_steps k (spot_in g s) (field_spot fs (suc k) s) _ _ (node_steps g s) (fields_steps fs (suc k) s))
  fields_steps (inserted name g slot fs) k s = here_steps slot s k g _ _ (fields_steps fs (suc k) s)

-- What is known behind the fields and not before them was met.

some_here : (own : Option ℕ) (s : ℕ) (x : Spot) (y : Option Spot) → is_some y ≡ true → is_some (here_or own s x y) ≡ true
some_here None s x y h = h
some_here (Some t) s x y h = by (nat_eq t s)
  where
    by : (b : Bool) → is_some (if b then Some x else y) ≡ true
    by true = refl
    by false = h

some_own : (t s : ℕ) (x : Spot) (y : Option Spot) → nat_eq t s ≡ true → is_some (here_or (Some t) s x y) ≡ true
some_own t s x y h = rw h refl

some_inner : (k : ℕ) (a b : Option Spot) → is_some a ≡ true → is_some (first_of_two (option_map (under (k ∷ [])) a) b) ≡ true
some_inner k None b h = absurd (true≢false (sym h))
some_inner k (Some x) b h = refl

some_rest : (k : ℕ) (a b : Option Spot) → is_some b ≡ true → is_some (first_of_two (option_map (under (k ∷ [])) a) b) ≡ true
some_rest k None b h = h
some_rest k (Some x) b h = refl

both_first : (a b : Bool) → (a && b) ≡ true → a ≡ true
both_first true b h = refl
both_first false b h = h

not_known : (b : Bool) → b ≡ false → b ≡ true → ⊥
not_known true e h = true≢false e
not_known false e h = true≢false (sym h)

component_met : (presence : Presence) (own : Option ℕ) (g : Grammar) (fs : Fields) (k s : ℕ) (ks : Known) → ks s ≡ false → (after ks g s ≡ true → is_some (spot_in g s) ≡ true)
    → (b : Bool) → choose_known presence ks (with_own own (after ks g)) s ≡ b → (b ≡ false → is_some (field_spot fs (suc k) s) ≡ true)
    → is_some (here_or own s (at k g) (first_of_two (option_map (under (k ∷ [])) (spot_in g s)) (field_spot fs (suc k) s))) ≡ true
component_met presence own g fs k s ks e inner false q rest = some_here own s (at k g) _ (some_rest k (spot_in g s) (field_spot fs (suc k) s) (rest refl))
component_met Bit own g fs k s ks e inner true q rest = absurd (not_known (ks s) e q)
component_met (When ts) own g fs k s ks e inner true q rest = absurd (not_known (ks s) e q)
component_met Always None g fs k s ks e inner true q rest = some_inner k (spot_in g s) (field_spot fs (suc k) s) (inner q)
component_met Always (Some t) g fs k s ks e inner true q rest = by (nat_eq t s) refl q
  where
    by : (b : Bool) → nat_eq t s ≡ b → (b || after ks g s) ≡ true → is_some (here_or (Some t) s (at k g) (first_of_two (option_map (under (k ∷ [])) (spot_in g s)) (field_spot fs (suc k) s))) ≡ true
    by true d h = some_own t s (at k g) _ d
    by false d h = some_here (Some t) s (at k g) _ (some_inner k (spot_in g s) (field_spot fs (suc k) s) (inner h))

inserted_met : (t k s : ℕ) (g : Grammar) (rest : Option Spot) (known : Bool) → known ≡ false → (b : Bool) → nat_eq t s ≡ b → ((b || known) ≡ false → is_some rest ≡ true) → is_some (here_or (Some t) s (at k g) rest) ≡ true
inserted_met t k s g rest known e true d more = some_own t s (at k g) rest d
inserted_met t k s g rest known e false d more = some_here (Some t) s (at k g) rest (more e)

mutual
  node_met : (g : Grammar) (ks : Known) (s : ℕ) → ks s ≡ false → after ks g s ≡ true → is_some (spot_in g s) ≡ true
  node_met (node align (seq fields home)) ks s e h = fields_met fields ks 0 s e (both_first (fields_after ks fields s) (not (holds home s)) h)
  node_met (node align (num leaf)) ks s e h = absurd (not_known (ks s) e h)
  node_met (node align (octets sizing)) ks s e h = absurd (not_known (ks s) e h)
  node_met (node align (bits sizing)) ks s e h = absurd (not_known (ks s) e h)
  node_met (node align (text leaf)) ks s e h = absurd (not_known (ks s) e h)
  node_met (node align (list sizing g)) ks s e h = absurd (not_known (ks s) e h)
  node_met (node align (choice cases rule)) ks s e h = absurd (not_known (ks s) e h)
  node_met (node align (contained sizing g)) ks s e h = absurd (not_known (ks s) e h)

  pub fields_met : (fs : Fields) (ks : Known) (k s : ℕ) → ks s ≡ false → fields_after ks fs s ≡ true → is_some (field_spot fs k s) ≡ true
  fields_met no_fields ks k s e h = absurd (not_known (ks s) e h)
  fields_met (component name g presence default own fs) ks k s e h =
      component_met presence own g fs k s ks e (λ d. node_met g ks s e d)
      (choose_known presence ks (with_own own (after ks g)) s) refl (λ d. fields_met fs (choose_known presence ks (with_own own (after ks g))) (suc k) s d h)
  fields_met (inserted name g None fs) ks k s e h = fields_met fs ks (suc k) s e h
  fields_met (inserted name g (Some t) fs) ks k s e h = inserted_met t k s g (field_spot fs (suc k) s) (ks s) e (nat_eq t s) refl (λ d. fields_met fs (with_slot t ks) (suc k) s d h)

-- What is met in a sound node is the slot's.

second_five : {A B C D E : Type 0} → A × B × C × D × E → B
second_five h = h.1

fourth_five : {A B C D E : Type 0} → A × B × C × D × E → D
fourth_five h = h.3

last_five : {A B C D E : Type 0} → A × B × C × D × E → E
last_five h = h.4

module _ (root : Grammar) where
  -- the leaf is the slot's
  abbrev pub IsTold : (s : ℕ) → Option Spot → Type 0
  IsTold s None = Unit {0}
  IsTold s (Some x) = (leaf : NumLeaf) × (x.leaf ≡ Some leaf) × (slot_leaf root s ≡ Some leaf)

  told_inner : (s k : ℕ) (a b : Option Spot) → IsTold s a → IsTold s b → IsTold s (first_of_two (option_map (under (k ∷ [])) a) b)
  told_inner s k None b h g = g
  told_inner s k (Some x) b h g = h

  says : (around : List ℕ) (ks : Known) (s k : ℕ) (g : Grammar) → SaysSlot root around ks s g → IsTold s (Some (at k g))
  says around ks s k (node align (num leaf)) h = (leaf, refl, h.2)
  says around ks s k (node align (octets sizing)) h = absurd h
  says around ks s k (node align (bits sizing)) h = absurd h
  says around ks s k (node align (text leaf)) h = absurd h
  says around ks s k (node align (seq fs home)) h = absurd h
  says around ks s k (node align (list sizing g)) h = absurd h
  says around ks s k (node align (choice cases rule)) h = absurd h
  says around ks s k (node align (contained sizing g)) h = absurd h

  told_slot : (around : List ℕ) (ks : Known) (t s k : ℕ) (g : Grammar) (y : Option Spot) → SaysSlot root around ks t g → IsTold s y → IsTold s (here_or (Some t) s (at k g) y)
  told_slot around ks t s k g y h more = by (nat_eq t s) refl
    where
      by : (b : Bool) → nat_eq t s ≡ b → IsTold s (if b then Some (at k g) else y)
      by true e = subst (λ (z : ℕ). IsTold z (Some (at k g))) (eqb-true t s e) (says around ks t k g h)
      by false e = more

  mutual
    node_told : (g : Grammar) (k : ℕ) (around : List ℕ) (ks : Known) → Sound root k around ks g → (s : ℕ) → IsTold s (spot_in g s)
    node_told (node align (seq fields home)) k around ks h s = fields_told fields (suc k) (home ++ around) ks h.2.1 0 s
    node_told (node align (num leaf)) k around ks h s = tt
    node_told (node align (octets sizing)) k around ks h s = tt
    node_told (node align (bits sizing)) k around ks h s = tt
    node_told (node align (text leaf)) k around ks h s = tt
    node_told (node align (list sizing g)) k around ks h s = tt
    node_told (node align (choice cases rule)) k around ks h s = tt
    node_told (node align (contained sizing g)) k around ks h s = tt

    pub fields_told : (fs : Fields) (k : ℕ) (around : List ℕ) (ks : Known) → FieldsSound root k around ks fs → (n s : ℕ) → IsTold s (field_spot fs n s)
    fields_told no_fields k around ks h n s = tt
    fields_told (component name g presence default None fs) k around ks h n s =
        told_inner s n (spot_in g s) (field_spot fs (suc n) s) (node_told g k around ks (fourth_five h) s) (fields_told fs k around _ (last_five h) (suc n) s)
    fields_told (component name g presence default (Some t) fs) k around ks h n s =
        told_slot around ks t s n g _ (second_five h).1 (told_inner s n (spot_in g s) (field_spot fs (suc n) s) (node_told g k around ks (fourth_five h) s) (fields_told fs k around _ (last_five h) (suc n) s))
    fields_told (inserted name g None fs) k around ks h n s = fields_told fs k around ks h.2 (suc n) s
    fields_told (inserted name g (Some t) fs) k around ks h n s = told_slot around ks t s n g _ h.0 (fields_told fs k around _ h.3 (suc n) s)

  mutual
    node_reached : (g : Grammar) (n k : ℕ) (around : List ℕ) (ks : Known) → Sound root k around ks g → n ≤ k → Reached n g
    node_reached (node align form) n k around ks h l = (omega (arith, h.1, l), form_reached form n k around ks h.2 l)

    form_reached : (form : Form) (n k : ℕ) (around : List ℕ) (ks : Known) → FormSound root k around ks form → n ≤ k → FormReached n form
    form_reached (seq fields home) n k around ks h l = (h.0.few_fields, fields_reached fields (suc n) (suc k) (home ++ around) ks h.1 (omega (arith, l)))
    form_reached (num leaf) n k around ks h l = tt
    form_reached (octets sizing) n k around ks h l = tt
    form_reached (bits sizing) n k around ks h l = tt
    form_reached (text leaf) n k around ks h l = tt
    form_reached (list sizing g) n k around ks h l = tt
    form_reached (choice cases rule) n k around ks h l = tt
    form_reached (contained sizing g) n k around ks h l = tt

    pub fields_reached : (fs : Fields) (n k : ℕ) (around : List ℕ) (ks : Known) → FieldsSound root k around ks fs → n ≤ k → FieldsReached n fs
    fields_reached no_fields n k around ks h l = tt
    fields_reached (component name g presence default own fs) n k around ks h l = (node_reached g n k around ks (fourth_five h) l, fields_reached fs n k around _ (last_five h) l)
    fields_reached (inserted name g None fs) n k around ks h l = (node_reached g n k around ks h.1 l, fields_reached fs n k around ks h.2 l)
    fields_reached (inserted name g (Some t) fs) n k around ks h l = (node_reached g n k around ks h.2 l, fields_reached fs n k around _ h.3 l)

-- A SEQUENCE.

number : (o : Option Spot) → is_some o ≡ true → (root : Grammar) (s : ℕ) → IsTold root s o → IsNumber o
number None h root s t = absurd (true≢false (sym h))
number (Some x) h root s t = record { steps = x.steps; leaf = t.0; is = ap (λ z. Some (record { steps = x.steps; leaf = z })) t.1 }

pub home_numbers : (root : Grammar) (fields : Fields) (home : List ℕ) → SequenceIn root fields home → (s : ℕ) → holds home s ≡ true → IsNumber (field_spot fields 0 s)
home_numbers root fields home i s h =
    let sound = i.sound in
    number (field_spot fields 0 s) (fields_met fields i.known 0 s (unknown (i.known s) refl) (sound.0.read_inside s h)) root s (fields_told root fields _ _ _ sound.1 0 s)
  where
    unknown : (b : Bool) → i.known s ≡ b → b ≡ false
    unknown true e = (let none = i.sound.0.unknown s e in absurd (true≢false (sym h ∙ none)))
    unknown false e = refl

none_before : (o : Option Spot) → option_map (under []) o ≡ o
none_before None = refl
none_before (Some x) = refl

-- where nothing was met before, and no steps lead to the SEQUENCE
pub all_met : (a b o : Option Spot) (path : List ℕ) → a ≡ None → path ≡ [] → b ≡ first_of_two a (option_map (under path) o) → b ≡ o
all_met a b o path e p h = h ∙ rw (e, p) (none_before o)

abbrev steps_in : ℕ × Option Spot → ℕ × Option (List ℕ)
steps_in e = (e.0, option_map (λ x. x.steps) e.1)

pub told_steps : (fields : Fields) (noted : ℕ → Option Spot) → ((s : ℕ) → noted s ≡ field_spot fields 0 s) → (all : List Determinant) (home : List ℕ) → map spot_told all ≡ map (λ (s : ℕ). (s, noted s)) home
    → map steps_of all ≡ map (λ (s : ℕ). (s, field_steps fields 0 s)) home
told_steps fields noted h all home e = sym (front all) ∙ (ap (map steps_in) e ∙ back home)
  where
    front : (ds : List Determinant) → map steps_in (map spot_told ds) ≡ map steps_of ds
    front [] = refl
    front (d ∷ ds) = ap (λ z. steps_of d ∷ z) (front ds)

    one : (s : ℕ) → option_map (λ x. x.steps) (noted s) ≡ field_steps fields 0 s
    one s = ap (option_map (λ x. x.steps)) (h s) ∙ fields_steps fields 0 s

    back : (ss : List ℕ) → map steps_in (map (λ (s : ℕ). (s, noted s)) ss) ≡ map (λ (s : ℕ). (s, field_steps fields 0 s)) ss
    back [] = refl
    back (s ∷ ss) = rw (one s) (ap (λ z. (s, field_steps fields 0 s) ∷ z) (back ss))

pub told_leaves : (root : Grammar) (noted : ℕ → Option Spot) → ((s : ℕ) → IsTold root s (noted s)) → (all : List Determinant) (home : List ℕ) → map spot_told all ≡ map (λ (s : ℕ). (s, noted s)) home → AllByRecursion (IsLeafIn root) all
told_leaves root noted h [] home e = tt
told_leaves root noted h (d ∷ ds) [] e = cc
told_leaves root noted h (d ∷ ds) (s ∷ home) e =
    let pair : spot_told d ≡ (s, noted s) = cc in
    let slot : d.slot ≡ s = ap (λ (z : ℕ × Option Spot). z.0) pair in
    let spot : Some (record { steps = d.steps; leaf = Some d.leaf.now }) ≡ noted s = ap (λ (z : ℕ × Option Spot). z.1) pair in
    let rest : map spot_told ds ≡ map (λ (s : ℕ). (s, noted s)) home = cc in
    let is = subst (IsTold root s) (sym spot) (h s) in
    (ap (slot_leaf root) slot ∙ (is.2 ∙ sym is.1), told_leaves root noted h ds home rest)

pub if_ok : {X E : Type 0} {A B : X → Type 0} (r : Result X E) → IfOk r A → ((x : X) → A x → B x) → IfOk r B
if_ok (Ok x) h f = f x h
if_ok (Err e) h f = tt
