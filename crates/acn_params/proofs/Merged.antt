-- What `slot_of` answers of the fields of the sources is where the merge leads.
use Rattle.std.proofs.Common.{◌≡◌, ℕ, zero, suc, ◌+◌, ◌≤◌, Bool, true, false, cond, ◌||◌, List, [], ◌∷◌, ◌++◌, length, map, Option, Some, None, refl, sym, ap, ap₂, subst, ◌∙◌, ◌⊎◌, inl, inr, arith, option_map, find, is_some}
use Rattle.std.specs.Prelude.{filter_map, option_and_then}
use Rattle.std.specs.List.{list_any, enumerate_from, cons_option}
use Rattle.std.specs.Option.{option_or}
use Rattle.std.specs.Str.{bytes_eq}
use Rattle.std.proofs.lemmas.Slice.Eq.{bytes_eq-Decides}
use Rattle.acn_num.specs.Names.{Name}
use Rattle.acn_asn_syntax.specs.Mirror.{AsnBase, boolean, null, integer, enumerated, octet_string, bit_string, ia5_string, sequence, sequence_of, sequence_size, choice, reference, Component}
use Rattle.acn_asn_syntax.specs.declared.types.Rest.{Rest}
use Rattle.acn_acn_syntax.specs.Mirror as acn
use Rattle.acn_index.specs.Chains.{ChainOf, base_part, written, chain_of}
use Rattle.acn_index.specs.World.{World}
use Rattle.acn_slots.specs.Slots as slots
use Rattle.acn_slots.specs.Slots.{Frame, Scope, Step, component, extra, step_at, field_step, field_named, bare_field, numbered_field, name_in_text, follow, last_slot, lead_to, lead_of, leads, by_frame, bound_slot, has_field, sort_of_base, components_in}
use Rattle.acn_slots.specs.declared.slots.Slot.{Slot}
use Rattle.acn_params.specs.Paths.{Field, slot, inner, name_of, is_named, is_optional, inside, along, slot_of_field, slot_of_last, up_to_absent, unless_absent, answer, judged, has_name, last_with, bound_to, by_fields, slot_at}
use Rattle.acn_params.specs.Paths as paths
use Rattle.acn_params.specs.View.{fields_of}
use Rattle.acn_params.specs.Laws.{names_among, names_in, field_with, field_by, fields_down, entered, numbered, answered}
use Rattle.acn_params.proofs.Views.{fields_back}

-- ---- the field of a name

-- where each item gives a thing or none, a name finds what the name itself gives, if it is among them
module _ {S : Type 0} (step : Name → Option S) (field : Name → S → Field) (named : (n : Name) (s : S) → name_of (field n s) ≡ n) where
  abbrev fields : List Name → List Field
  fields ns = filter_map (λ n. option_map (field n) (step n)) ns

  abbrev own : Name → Option Field
  own q = option_map (field q) (step q)

  skip : (q n : Name) (o : Option S) (fs : List Field) → bytes_eq n q ≡ false → find (is_named q) (cons_option (option_map (field n) o) fs) ≡ find (is_named q) fs
  skip q n None fs h = refl
  skip q n (Some s) fs h = ap (λ b. cond b (Some (field n s)) (find (is_named q) fs)) (ap (λ m. bytes_eq m q) (named n s) ∙ h)

  take_it : (q : Name) (o : Option S) (fs : List Field) (b : Bool) → find (is_named q) fs ≡ cond b (option_map (field q) o) None → find (is_named q) (cons_option (option_map (field q) o) fs) ≡ option_map (field q) o
  take_it q None fs true h = h
  take_it q None fs false h = h
  take_it q (Some s) fs b h = ap (λ b. cond b (Some (field q s)) (find (is_named q) fs)) (ap (λ m. bytes_eq m q) (named q s) ∙ (bytes_eq-Decides q q).1 refl)

  pub found_own : (q : Name) (ns : List Name) → find (is_named q) (fields ns) ≡ cond (list_any (λ n. bytes_eq n q) ns) (own q) None
  found_own q [] = refl
  found_own q (n ∷ ns) = by (bytes_eq n q) refl (found_own q ns)
    where
      by : (b : Bool) → bytes_eq n q ≡ b → find (is_named q) (fields ns) ≡ cond (list_any (λ n. bytes_eq n q) ns) (own q) None
          → find (is_named q) (fields (n ∷ ns)) ≡ cond (b || list_any (λ n. bytes_eq n q) ns) (own q) None
      by false h others = skip q n (step n) (fields ns) h ∙ others
      by true h others =
          let same : q ≡ n = sym ((bytes_eq-Decides n q).0 h) in
          subst (λ m. find (is_named q) (cons_option (option_map (field m) (step m)) (fields ns)) ≡ own q) same (take_it q (step q) (fields ns) (list_any (λ n. bytes_eq n q) ns) others)

-- ---- a name that isn't there has no step

no_component : (q : Name) (k : ℕ) (cs : List Component) → list_any (λ n. bytes_eq n q) (map (λ (c : Component). c.name) cs) ≡ false → find (λ (c : ℕ × Component). bytes_eq c.1.name q) (enumerate_from k cs) ≡ None
no_component q k [] h = refl
no_component q k (c ∷ cs) h = by (bytes_eq c.name q) h (no_component q (k + 1) cs)
  where
    by : (b : Bool) → b || list_any (λ n. bytes_eq n q) (map (λ (c : Component). c.name) cs) ≡ false
        → (list_any (λ n. bytes_eq n q) (map (λ (c : Component). c.name) cs) ≡ false → find (λ (c : ℕ × Component). bytes_eq c.1.name q) (enumerate_from (k + 1) cs) ≡ None)
        → cond b (Some (k, c)) (find (λ (c : ℕ × Component). bytes_eq c.1.name q) (enumerate_from (k + 1) cs)) ≡ None
    by true h others = absurd (cc h)
    by false h others = others h

no_text : (q : Name) (k : ℕ) (fs : List acn.Field) → list_any (λ n. bytes_eq n q) (map name_in_text fs) ≡ false → find (λ (f : ℕ × acn.Field). bytes_eq (name_in_text f.1) q) (enumerate_from k fs) ≡ None
no_text q k [] h = refl
no_text q k (f ∷ fs) h = by (bytes_eq (name_in_text f) q) h (no_text q (k + 1) fs)
  where
    by : (b : Bool) → b || list_any (λ n. bytes_eq n q) (map name_in_text fs) ≡ false
        → (list_any (λ n. bytes_eq n q) (map name_in_text fs) ≡ false → find (λ (f : ℕ × acn.Field). bytes_eq (name_in_text f.1) q) (enumerate_from (k + 1) fs) ≡ None)
        → cond b (Some (k, f)) (find (λ (f : ℕ × acn.Field). bytes_eq (name_in_text f.1) q) (enumerate_from (k + 1) fs)) ≡ None
    by true h others = absurd (cc h)
    by false h others = others h

none_named : (q : Name) (cs : List Component) (b : Option (List acn.Field)) → list_any (λ n. bytes_eq n q) (names_among cs b) ≡ false → field_named b cs q ≡ None
none_named q cs None h = ap (option_map bare_field) (no_component q 0 cs h)
none_named q cs (Some fs) h = ap (option_and_then (numbered_field cs)) (no_text q 0 fs h)

-- ---- a field has a slot or an inside, not both

base_is_one : (b : AsnBase) → (sort_of_base b ≡ None) ⊎ (components_in b ≡ None)
base_is_one boolean = inr refl
base_is_one null = inl refl
base_is_one (integer ns) = inr refl
base_is_one (enumerated items) = inr refl
base_is_one octet_string = inl refl
base_is_one bit_string = inl refl
base_is_one ia5_string = inl refl
base_is_one (sequence cs) = inl refl
base_is_one (sequence_of t) = inl refl
base_is_one (sequence_size c t) = inl refl
base_is_one (choice more) = inl refl
base_is_one (reference from name) = inl refl

abbrev IsOne : Step → Type 0
IsOne s = (s.slot ≡ None) ⊎ (s.inside ≡ None)

component_is_one : (c : ChainOf) (f : Frame) (i : ℕ) (r : Rest) (u : slots.Use) → IsOne (slots.component_step c f i r u)
component_is_one c f i r u = elim (base_is_one (base_part c.base)) [
  | inl h ↦ inl (ap (slots.slot_at (f.path ++ i ∷ [])) h)
  | inr h ↦ inr (ap (option_map (slots.frame_with c u (slots.braces_origin c u) f.reader (f.path ++ i ∷ []))) h)
]

field_is_one : (w : World) (f : Frame) (p : ℕ × slots.Field) → IsOne (field_step w f p)
field_is_one w f (i, component c u) = component_is_one (chain_of w (written f.owner c.of)) f i c.rest u
field_is_one w f (i, extra name kind attributes) = inr refl

step_is_one : (w : World) (f : Frame) (q : Name) (s : Step) → step_at w f q ≡ Some s → IsOne s
unfolding step_at
step_is_one w f q s h = by (field_named f.braces f.components q) h
  where
    by : (o : Option (ℕ × slots.Field)) → option_map (field_step w f) o ≡ Some s → IsOne s
    by None h = absurd (cc h)
    by (Some p) h = (let e : field_step w f p ≡ s = cc h in subst IsOne e (field_is_one w f p))

-- ---- along the names

module _ (w : World) (number : Slot → ℕ) where
  abbrev down : ℕ → Frame → List Field
  down deep f = fields_down w number deep f

  named_so : (within : Frame → List Field) (n : Name) (s : Step) → name_of (field_by number within n s) ≡ n
  named_so within n s = by s.slot (option_map within s.inside)
    where
      by : (o : Option Slot) (i : Option (List Field)) → name_of (field_with number n s.optional o i) ≡ n
      by (Some x) i = refl
      by None None = refl
      by None (Some fs) = refl

  no_step : (f : Frame) (q : Name) → list_any (λ n. bytes_eq n q) (names_in f) ≡ false → step_at w f q ≡ None
  unfolding step_at
  no_step f q h = ap (option_map (field_step w f)) (none_named q f.components f.braces h)

  found : (deep : ℕ) (f : Frame) (q : Name) → find (is_named q) (down (suc deep) f) ≡ option_map (field_by number (down deep) q) (step_at w f q)
  found deep f q = found_own (step_at w f) (field_by number (down deep)) (named_so (down deep)) q (names_in f) ∙ by (list_any (λ n. bytes_eq n q) (names_in f)) refl
    where
      by : (b : Bool) → list_any (λ n. bytes_eq n q) (names_in f) ≡ b → cond b (option_map (field_by number (down deep) q) (step_at w f q)) None ≡ option_map (field_by number (down deep) q) (step_at w f q)
      by true h = refl
      by false h = sym (ap (option_map (field_by number (down deep) q)) (no_step f q h))

  -- the fields on the way and the steps on the way answer the same
  abbrev Same : Option (List Field) → Option (List Step) → Type 0
  Same None None = Unit {0}
  Same (Some xs) (Some ss) = (slot_of_last xs ≡ option_map number (last_slot None ss)) × ((last_slot None ss ≡ None) ⊎ (up_to_absent xs ≡ slots.up_to_absent ss))
  Same _ _ = ⊥

  one_step : (within : Frame → List Field) (q : Name) (s : Step) → IsOne s → Same (Some (field_by number within q s ∷ [])) (Some (s ∷ []))
  one_step within q s one = by s.slot s.inside one
    where
      by : (o : Option Slot) (i : Option Frame) → (o ≡ None) ⊎ (i ≡ None) → (slot_of_field (field_with number q s.optional o (option_map within i)) ≡ option_map number o) × ((o ≡ None) ⊎ (cond {A = Option ℕ} (is_optional (field_with number q s.optional o (option_map within i))) (Some 1) None ≡ cond s.optional (Some 1) None))
      by (Some x) i one = (refl, inr refl)
      by None None one = (refl, inl refl)
      by None (Some g) one = (refl, inl refl)

  -- one SEQUENCE more in front
  more : (q : Name) (fs : List Field) (s : Step) → s.slot ≡ None → (a : Option (List Field)) (b : Option (List Step)) → Same a b
      → Same (option_map (λ xs. inner q (fields_of fs) s.optional ∷ xs) a) (option_map (λ ss. s ∷ ss) b)
  more q fs s none None None h = tt
  more q fs s none None (Some ss) h = absurd h
  more q fs s none (Some xs) None h = absurd h
  more q fs s none (Some xs) (Some ss) h = (last xs (h.0), absent (h.1))
    where
      slot_is : last_slot s.slot ss ≡ last_slot None ss
      slot_is = ap (λ o. last_slot o ss) none

      last : (ys : List Field) → slot_of_last ys ≡ option_map number (last_slot None ss) → slot_of_last (inner q (fields_of fs) s.optional ∷ ys) ≡ option_map number (last_slot s.slot ss)
      last [] e = e ∙ ap (option_map number) (sym slot_is)
      last (y ∷ ys) e = e ∙ ap (option_map number) (sym slot_is)

      absent : (last_slot None ss ≡ None) ⊎ (up_to_absent xs ≡ slots.up_to_absent ss) → (last_slot s.slot ss ≡ None) ⊎ (up_to_absent (inner q (fields_of fs) s.optional ∷ xs) ≡ slots.up_to_absent (s ∷ ss))
      absent (inl e) = inl (slot_is ∙ e)
      absent (inr e) = inr (ap (λ (o : Option ℕ). cond {A = Option ℕ} s.optional (Some 1) (option_map suc o)) e)

  -- the fields of a SEQUENCE down to a depth, along as many names
  abbrev AreAlike : ℕ → Type 0
  AreAlike deep = (f : Frame) (q : Name) (names : List Name) → length (q ∷ names) ≤ deep → Same (along (down deep f) (q ∷ names)) (follow w (Some f) (q ∷ names))

  -- behind the first name, inside the field that has it
  abbrev Behind : ℕ → Name → List Name → Step → Type 0
  Behind deep q names s = Same (option_map (λ xs. field_by number (down deep) q s ∷ xs) (along (inside (field_by number (down deep) q s)) names)) (option_map (λ ss. s ∷ ss) (follow w s.inside names))

  goes_on : (deep : ℕ) → AreAlike deep → (q : Name) (names : List Name) → length names ≤ deep → (s : Step) → IsOne s → Behind deep q names s
  goes_on deep alike q [] few s one = one_step (down deep) q s one
  goes_on deep alike q (n ∷ names) few s one = by s.slot s.inside refl one
    where
      by : (o : Option Slot) (i : Option Frame) → s.slot ≡ o → (o ≡ None) ⊎ (i ≡ None)
          → Same (option_map (λ xs. field_with number q s.optional o (option_map (down deep) i) ∷ xs) (along (inside (field_with number q s.optional o (option_map (down deep) i))) (n ∷ names))) (option_map (λ ss. s ∷ ss) (follow w i (n ∷ names)))
      by (Some x) None e one = tt
      by (Some x) (Some g) e (inl k) = absurd (cc k)
      by (Some x) (Some g) e (inr k) = absurd (cc k)
      by None None e one = tt
      by None (Some g) e one = subst (λ fs. Same (option_map (λ xs. inner q (fields_of (down deep g)) s.optional ∷ xs) (along fs (n ∷ names))) (option_map (λ ss. s ∷ ss) (follow w (Some g) (n ∷ names)))) (sym (fields_back (down deep g)))
          (more q (down deep g) s e (along (down deep g) (n ∷ names)) (follow w (Some g) (n ∷ names)) (alike g n names few))

  alike : (deep : ℕ) → AreAlike deep
  alike zero f q names few = absurd (omega arith)
  alike (suc deep) f q names few = subst (λ o. Same (option_and_then (λ x. option_map (λ more. x ∷ more) (along (inside x) names)) o) (follow w (Some f) (q ∷ names))) (sym (found deep f q)) (by (goes_on deep (alike deep) q names (omega arith)) (step_at w f q) refl)
    where
      by : ((s : Step) → IsOne s → Behind deep q names s) → (o : Option Step) → step_at w f q ≡ o
          → Same (option_and_then (λ x. option_map (λ more. x ∷ more) (along (inside x) names)) (option_map (field_by number (down deep) q) o)) (option_and_then (λ (s : Step). option_map (λ more. s ∷ more) (follow w s.inside names)) o)
      by behind None e = tt
      by behind (Some s) e = behind s (step_is_one w f q s e)

  -- ---- what is answered

  led : (a : Option (List Field)) (b : Option (List Step)) → Same a b → judged a ≡ answered number (lead_of b)
  led None None h = refl
  led None (Some ss) h = absurd h
  led (Some xs) None h = absurd h
  led (Some xs) (Some ss) h = ap (λ o. answer o (up_to_absent xs)) h.0 ∙ by (last_slot None ss) (up_to_absent xs) (slots.up_to_absent ss) h.1
    where
      by : (o : Option Slot) (x y : Option ℕ) → (o ≡ None) ⊎ (x ≡ y) → answer (option_map number o) x ≡ answered number (lead_to o y)
      by None x y h = refl
      by (Some z) x y (inl h) = absurd (cc h)
      by (Some z) x y (inr h) = ap (unless_absent (number z)) h ∙ same y
        where
          same : (y : Option ℕ) → unless_absent (number z) y ≡ answered number (slots.unless_absent z y)
          same None = refl
          same (Some through) = refl

  -- ---- parameters

  bound_so : (q : Name) (bound : List (Name × Slot)) → bound_to (numbered number bound) q ≡ option_map number (bound_slot bound q)
  bound_so q [] = refl
  bound_so q (b ∷ bound) = by (bytes_eq b.0 q) (bound_so q bound)
    where
      by : (t : Bool) → bound_to (numbered number bound) q ≡ option_map number (bound_slot bound q)
          → option_map (λ (p : Name × ℕ). p.1) (cond t (Some (b.0, number b.1)) (find (λ (p : Name × ℕ). bytes_eq p.0 q) (numbered number bound))) ≡ option_map number (option_map (λ (p : Name × Slot). p.1) (cond t (Some b) (find (λ (p : Name × Slot). bytes_eq p.0 q) bound)))
      by true h = refl
      by false h = h

  by_parameter_so : (q : Name) (names : List Name) (bound : List (Name × Slot)) → paths.by_parameter (numbered number bound) (q ∷ names) ≡ answered number (slots.by_parameter bound q names)
  by_parameter_so q [] bound = ap paths.or_unknown (bound_so q bound) ∙ by (bound_slot bound q)
    where
      by : (o : Option Slot) → paths.or_unknown (option_map number o) ≡ answered number (lead_to o None)
      by None = refl
      by (Some z) = refl
  by_parameter_so q (n ∷ names) bound = refl

  -- ---- the innermost SEQUENCE that has a field of the name

  any_found : (q : Name) (fs : List Field) → has_name q fs ≡ is_some (find (is_named q) fs)
  any_found q [] = refl
  any_found q (f ∷ fs) = by (is_named q f) (any_found q fs)
    where
      by : (b : Bool) → has_name q fs ≡ is_some (find (is_named q) fs) → (b || has_name q fs) ≡ is_some (cond b (Some f) (find (is_named q) fs))
      by true h = refl
      by false h = h

  has_so : (deep : ℕ) (f : Frame) (q : Name) → has_name q (down (suc deep) f) ≡ has_field q f
  unfolding step_at
  has_so deep f q = any_found q (down (suc deep) f) ∙ ap is_some (found deep f q) ∙ by (field_named f.braces f.components q)
    where
      by : (o : Option (ℕ × slots.Field)) → is_some (option_map (field_by number (down deep) q) (option_map (field_step w f) o)) ≡ is_some o
      by None = refl
      by (Some p) = refl

  last_is : (q : Name) (all : List (List Field)) (fs : List Field) → last_with q (all ++ fs ∷ []) ≡ cond (has_name q fs) (Some fs) (last_with q all)
  last_is q [] fs = refl
  last_is q (first ∷ all) fs = ap (λ o. option_or o (cond (has_name q first) (Some first) None)) (last_is q all fs) ∙ by (has_name q fs)
    where
      by : (b : Bool) → option_or (cond b (Some fs) (last_with q all)) (cond (has_name q first) (Some first) None) ≡ cond b (Some fs) (last_with q (first ∷ all))
      by true = refl
      by false = refl

  innermost : (deep : ℕ) (q : Name) (frames : List Frame) → last_with q (entered (down (suc deep)) frames) ≡ option_map (down (suc deep)) (find (has_field q) frames)
  innermost deep q [] = refl
  innermost deep q (f ∷ frames) = last_is q (entered (down (suc deep)) frames) (down (suc deep) f) ∙ ap₂ (λ b o. cond b (Some (down (suc deep) f)) o) (has_so deep f q) (innermost deep q frames) ∙ by (has_field q f)
    where
      by : (b : Bool) → cond b (Some (down (suc deep) f)) (option_map (down (suc deep)) (find (has_field q) frames)) ≡ option_map (down (suc deep)) (cond b (Some f) (find (has_field q) frames))
      by true = refl
      by false = refl

  by_frame_so : (deep : ℕ) (q : Name) (names : List Name) (bound : List (Name × Slot)) → length (q ∷ names) ≤ deep → (o : Option Frame) → by_fields (option_map (down deep) o) (numbered number bound) (q ∷ names) ≡ answered number (by_frame w bound q names o)
  by_frame_so deep q names bound few None = by_parameter_so q names bound
  by_frame_so deep q names bound few (Some f) = led (along (down deep f) (q ∷ names)) (follow w (Some f) (q ∷ names)) (alike deep f q names few)

  from_names : (s : Scope) (deep : ℕ) (names : List Name) → length names ≤ deep → slot_at (entered (down deep) s.frames) (numbered number s.bound) names ≡ answered number (leads w s names)
  unfolding leads
  from_names s deep [] few = refl
  from_names s zero (q ∷ names) few = absurd (omega arith)
  from_names s (suc deep) (q ∷ names) few = ap (λ o. by_fields o (numbered number s.bound) (q ∷ names)) (innermost deep q s.frames) ∙ by_frame_so (suc deep) q names s.bound few (find (has_field q) s.frames)

pub leads_so : (w : World) (number : Slot → ℕ) (s : Scope) (names : List Name) (deep : ℕ) → length names ≤ deep → slot_at (entered (fields_down w number deep) s.frames) (numbered number s.bound) names ≡ answered number (leads w s names)
leads_so w number s names deep few = from_names w number s deep names few
