-- Chains of references end: no more assignments are passed than there are, since none is passed twice.
use Rattle.std.proofs.Common.{◌≡◌, ℕ, zero, suc, ◌≤◌, true, List, [], ◌∷◌, ◌++◌, length, refl, sym, ap, subst, ◌∙◌, arith, inl, inr}
use Rattle.std.specs.Prelude.{Option, Some, None, flat_map, filter_map, reverse, option_and_then, option_map, not}
use Rattle.std.specs.List.{cons_option}
use Rattle.std.proofs.lemmas.List.{append-nil, reverse-append}
use Rattle.std.proofs.lemmas.List.Elements.{filter_map-append}
use Rattle.std.proofs.lemmas.Grind.{flat_map-append}
use Rattle.acn_num.specs.Names.{Name}
use Rattle.acn_asn_syntax.specs.Mirror.{AsnType, type_of, reference, no_constraints, Assign, TypeIs, ValueIs, Constraint}
use Rattle.acn_asn_syntax.specs.declared.types.Tag.{Tag}
use Rattle.acn_index.specs.World.{World, assignment, type_at, type_part, places, count, place}
use Rattle.acn_index.specs.Lookup.{type_named, is_type, module_named, found, EntryAt}
use Rattle.acn_mentions.specs.Mentions.{Mention, to_type, mentions, assign_mentions}
use Rattle.acn_world.specs.Repeated.{when}
use Rattle.acn_world.specs.Unknown.{is_known, mention_name}
use Rattle.acn_graph.specs.Graph.{Among, here, there}
use Rattle.acn_world.specs.Cycles.{type_target, targets, targets_of, Reaches, once, more}
use Rattle.acn_index.specs.Chains.{Link, ChainOf, written, assigned_link, base_reference, reference_of, next_link, more_links, links_within, links, last_link, base_link, base_of, link_constraints, link_entry, chain_of_links, chain_of}
use Rattle.acn_world.specs.Faults.{IsSound, early_fault}
use Rattle.acn_index.specs.declared.sources.TypeId.{TypeId}
use Rattle.acn_names.specs.Standing.{Stands}
use Rattle.acn_names.proofs.Valued.{chained, within_tested}
use Rattle.acn_names.proofs.Known.{front_empty, back_empty, there_when, none_of}
use Rattle.acn_index.proofs.ChainSteps.{last_ends, last_goes}
use Rattle.acn_index.proofs.Left.{without, every_place}
use Rattle.acn_names.proofs.Ended.{assigned_in, reached_in}
use Rattle.acn_names.proofs.Inside.{IsInside, stands_inside, mentioned}

member_empty : {A B : Type 0} (f : A → List B) {x : A} (xs : List A) → flat_map f xs ≡ [] → Among x xs → f x ≡ []
member_empty f [] e i = absurd (elim i [ ])
member_empty f (z ∷ xs) e here = front_empty (f z) (flat_map f xs) e
member_empty f (z ∷ xs) e (there i) = member_empty f xs (back_empty (f z) (flat_map f xs) e) i

behind_it : {A : Type 0} {y : A} (o : Option A) {ys : List A} → Among y ys → Among y (cons_option o ys)
behind_it None i = i
behind_it (Some z) i = there i

at_front : {A : Type 0} (y : A) (o : Option A) (ys : List A) → o ≡ Some y → Among y (cons_option o ys)
at_front y o ys e = subst (λ (z : Option _). Among y (cons_option z ys)) (sym e) here

chosen_in : {A B : Type 0} (f : A → Option B) {x : A} (xs : List A) (y : B) → f x ≡ Some y → Among x xs → Among y (filter_map f xs)
chosen_in f [] y e i = absurd (elim i [ ])
chosen_in f (z ∷ xs) y e here = at_front y (f z) (filter_map f xs) e
chosen_in f (z ∷ xs) y e (there i) = behind_it (f z) (chosen_in f xs y e i)

in_type : {m : Mention} (name : Name) (t : AsnType) → Among m (mentions t) → Among m (assign_mentions (TypeIs name t))
unfolding assign_mentions
in_type name t i = i

module _ (w : World) where
  abbrev IsTyped : TypeId → Type 0
  IsTyped p = (t : AsnType) × (type_at w p ≡ Some t)

  type_case : (name : Name) (p : TypeId) (a : Assign) → assignment w p ≡ Some a → is_type name a ≡ true → IsTyped p
  unfolding type_at
  type_case name p (TypeIs other t) e h = (t, ap (option_and_then type_part) e)
  type_case name p (ValueIs other t v) e h = absurd (cc h)

  found_typed : (name : Name) (k : ℕ) (q : TypeId) → found w (is_type name) name k ≡ Some q → IsTyped q
  unfolding found
  found_typed name k q e = let h = within_tested w _ (is_type name) name k q e in type_case name q h.0 h.1 h.2

  named_typed : (k : ℕ) (from : Option Name) (name : Name) (q : TypeId) → type_named w k from name ≡ Some q → IsTyped q
  unfolding type_named
  named_typed k None name q e = found_typed name k q e
  named_typed k (Some from) name q e = let other = chained (found w (is_type name) name) (module_named w from) q e in found_typed name other.0 q other.2

  -- a type to which a type refers in a sound world is there
  known : early_fault w ≡ None → (p : TypeId) (a : Assign) (from : Option Name) (name : Name) → assignment w p ≡ Some a → Among (to_type from name) (assign_mentions a) → (q : TypeId) × (type_named w p.module from name ≡ Some q)
  unfolding is_known
  known e p a from name f i =
      let test = λ (m : Mention). when (not (is_known w p.module m)) (mention_name m) in
      there_when (type_named w p.module from name) name (member_empty test (assign_mentions a) (none_of w e p a f) i)

  assigned_type : (p : TypeId) (o : Option Assign) (t : AsnType) → assignment w p ≡ o → option_and_then type_part o ≡ Some t → (name : Name) × (assignment w p ≡ Some (TypeIs name t))
  assigned_type p None t e f = absurd (cc f)
  assigned_type p (Some (TypeIs name u)) t e f = let same : u ≡ t = cc f in (name, e ∙ ap (λ (z : AsnType). Some (TypeIs name z)) same)
  assigned_type p (Some (ValueIs name u v)) t e f = absurd (cc f)

  at_type : (p : TypeId) (t : AsnType) → type_at w p ≡ Some t → (name : Name) × (assignment w p ≡ Some (TypeIs name t))
  unfolding type_at
  at_type p t e = assigned_type p (assignment w p) t refl e

  edge : (p q : TypeId) (name : Name) (t : AsnType) (r : Option Name × Name) → assignment w p ≡ Some (TypeIs name t) → reference_of t ≡ Some r → type_named w p.module r.0 r.1 ≡ Some q → Among q (targets w p)
  unfolding targets targets_of
  edge p q name t r e f g = rw e (chosen_in (type_target w p.module) (mentions t) q g (mentioned t r f))

  abbrev link_at : TypeId → AsnType → Link
  link_at p t = record { owner = p.module; of = t; assigned = Some p }

  next_is : (l : Link) (r : Option Name × Name) (q : TypeId) (u : AsnType) → reference_of l.of ≡ Some r → type_named w l.owner r.0 r.1 ≡ Some q → type_at w q ≡ Some u → next_link w l ≡ Some (link_at q u)
  unfolding next_link
  next_is l r q u e f g = rw e (rw f (rw g refl))

  no_next : (l : Link) → reference_of l.of ≡ None → next_link w l ≡ None
  unfolding next_link
  no_next l e = rw e refl

  -- the chain ends within so many links, at a type that is no reference
  pub record Ends (n : ℕ) (l : Link) : Type 0 where
    pub base : reference_of (last_link l (links_within n w l)).of ≡ None
    pub whole : links_within n w l ≡ links_within (suc n) w l

  one_link : (n : ℕ) (l next : Link) → next_link w l ≡ Some next → links_within (suc n) w l ≡ l ∷ links_within n w next
  unfolding links_within
  one_link n l next e = rw e refl

  whole_here : (n : ℕ) (l : Link) → next_link w l ≡ None → links_within (suc n) w l ≡ links_within (suc (suc n)) w l
  unfolding links_within
  whole_here n l e = rw e refl

  whole_next : (n : ℕ) (l next : Link) → next_link w l ≡ Some next → links_within n w next ≡ links_within (suc n) w next → links_within (suc n) w l ≡ links_within (suc (suc n)) w l
  whole_next n l next e h = one_link n l next e ∙ (ap (λ (z : List Link). l ∷ z) h ∙ sym (one_link (suc n) l next e))

  abbrev Onward : ℕ → Link → Type 0
  Onward n l = (r : Option Name × Name) → reference_of l.of ≡ Some r → (next : Link) × (next_link w l ≡ Some next) × (m : ℕ) × (n ≡ suc m) × Ends n next

  onward : (n m : ℕ) (l next : Link) → n ≡ suc m → next_link w l ≡ Some next → Ends n next → Ends (suc n) l
  onward zero m l next s e ends = absurd (omega (arith, s))
  onward (suc n) m l next s e ends = record {
    base = subst (λ (z : Link). reference_of z.of ≡ None) (sym (last_goes w (suc n) n l next refl e)) ends.base;
    whole = whole_next (suc n) l next e ends.whole;
  }

  step : (n : ℕ) (l : Link) (o : Option (Option Name × Name)) → reference_of l.of ≡ o → Onward n l → Ends (suc n) l
  step n l None e on = record {
    base = subst (λ (z : Link). reference_of z.of ≡ None) (sym (last_ends w n l (no_next l e))) e;
    whole = whole_here n l (no_next l e);
  }
  step n l (Some r) e on = let h = on r e in onward n h.2 l h.0 h.3 h.1 h.4

  module _ (sound : IsSound w) where
    -- what is reached from an assignment stands among those that are left; the assignment itself isn't reached
    ended : (n : ℕ) (left : List TypeId) (p : TypeId) (t : AsnType) → length left ≤ n → type_at w p ≡ Some t → Among p left
        → ((q : TypeId) (way : List TypeId) → Reaches w p q way → Among q left) → (m : ℕ) × (n ≡ suc m) × Ends n (link_at p t)
    ended zero left p t le e i all = let h = without left i in let a = h.1 in absurd (omega arith)
    ended (suc n) left p t le e i all =
        let own = at_type p t e in
        let rest = without left i in
        let fewer : length rest.0 ≤ n = (let a = rest.1 in omega arith) in
        let stays : (q : TypeId) (way : List TypeId) → Reaches w p q way → Among q rest.0 = λ q way r. elim (rest.2 q (all q way r)) [
          | inl same ↦ absurd (sound.acyclic.none p way (subst (λ (y : TypeId). Reaches w p y way) same r))
          | inr j ↦ j
        ] in (
          n,
          refl,
          step n (link_at p t) (reference_of t) refl (λ r f.
              let q = known sound.early p (TypeIs own.0 t) r.0 r.1 own.1 (in_type own.0 t (mentioned t r f)) in
              let u = named_typed p.module r.0 r.1 q.0 q.1 in
              let to = edge p q.0 own.0 t r own.1 f q.1 in
              let h = ended n rest.0 q.0 u.0 fewer u.1 (stays q.0 (p ∷ []) (once to)) (λ x way s. stays x (p ∷ way) (more to s)) in
              (link_at q.0 u.0, next_is (link_at p t) r q.0 u.0 f q.1 u.1, h.0, h.1, h.2)),
        )

    pub from_place : (p : TypeId) (t : AsnType) → type_at w p ≡ Some t → (m : ℕ) × (count w ≡ suc m) × Ends (count w) (link_at p t)
    from_place p t e =
        let own = at_type p t e in
        ended (count w) (places w) p t (let a = every_place w in omega arith) e (assigned_in w p (TypeIs own.0 t, own.1)) (λ q way r. reached_in w r)

    from_text : (k : ℕ) (t : AsnType) → IsInside w k t → Ends (suc (count w)) (written k t)
    from_text k t h =
        step (count w) (written k t) (reference_of t) refl (λ r f.
        let q = known sound.early (place k h.0) h.1 r.0 r.1 h.2 (h.3 (to_type r.0 r.1) (mentioned t r f)) in
        let u = named_typed k r.0 r.1 q.0 q.1 in
        let ends = from_place q.0 u.0 u.1 in
        (link_at q.0 u.0, next_is (written k t) r q.0 u.0 f q.1 u.1, ends.0, ends.1, ends.2))

pub each_base : (w : World) (k : ℕ) (t : AsnType) → IsSound w → Stands w k t → base_reference (base_of w (written k t)) ≡ None
unfolding base_of base_link links
each_base w k t sound s = (from_text w sound k t (stands_inside w k s)).base

-- ---- the chain of a reference without constraints

made : Link → List (ℕ × Constraint) → List EntryAt → ChainOf
made l cs es = record { base = l.of; owner = l.owner; constraints = cs; entries = es }

module _ (w : World) (k : ℕ) (tag : Option Tag) (from : Option Name) (name : Name) where
  abbrev bare : Link
  bare = written k (type_of tag (reference from name) no_constraints)

  reversed : (ls : List Link) → reverse (bare ∷ ls) ≡ reverse ls ++ bare ∷ []
  reversed ls = reverse-append (bare ∷ []) ls

  same_constraints : (ls : List Link) → flat_map link_constraints (reverse (bare ∷ ls)) ≡ flat_map link_constraints (reverse ls)
  same_constraints ls = ap (flat_map link_constraints) (reversed ls) ∙ (flat_map-append link_constraints (reverse ls) (bare ∷ []) ∙ append-nil (flat_map link_constraints (reverse ls)))

  same_entries : (ls : List Link) → filter_map (link_entry w) (reverse (bare ∷ ls)) ≡ filter_map (link_entry w) (reverse ls)
  same_entries ls = ap (filter_map (link_entry w)) (reversed ls) ∙ (filter_map-append (link_entry w) (reverse ls) (bare ∷ []) ∙ append-nil (filter_map (link_entry w) (reverse ls)))

  without_front : (l : Link) (rest : List Link) → chain_of_links w bare (bare ∷ l ∷ rest) ≡ chain_of_links w l (l ∷ rest)
  unfolding made
  without_front l rest =
      ap (λ (z : List (ℕ × Constraint)). made (last_link l rest) z (filter_map (link_entry w) (reverse (bare ∷ l ∷ rest)))) (same_constraints (l ∷ rest))
      ∙ ap (made (last_link l rest) (flat_map link_constraints (reverse (l ∷ rest)))) (same_entries (l ∷ rest))

  linked : (p : TypeId) (t : AsnType) (l : Link) (o : Option AsnType) → o ≡ Some t → option_map (link_at w p) o ≡ Some l → link_at w p t ≡ l
  linked p t l None e f = absurd (cc e)
  linked p t l (Some u) e f = let same : u ≡ t = cc e in let there : link_at w p u ≡ l = cc f in ap (link_at w p) (sym same) ∙ there

  -- all links, where the next one is that of a place
  all_links : IsSound w → (p : TypeId) (t : AsnType) → type_named w k from name ≡ Some p → type_at w p ≡ Some t → links w bare ≡ bare ∷ links w (link_at w p t)
  unfolding links
  all_links sound p t e f = one_link w (count w) bare (link_at w p t) (next_is w bare (from, name) p t refl e f) ∙ ap (λ (z : List Link). bare ∷ z) (from_place w sound p t f).2.whole

  at_place : IsSound w → (p : TypeId) (t : AsnType) → type_named w k from name ≡ Some p → type_at w p ≡ Some t → chain_of w bare ≡ chain_of w (link_at w p t)
  unfolding chain_of links links_within
  at_place sound p t e f = ap (chain_of_links w bare) (all_links sound p t e f) ∙ without_front (link_at w p t) (more_links (links_within (count w) w) (next_link w (link_at w p t)))

  pub reference_chain : (p : TypeId) (l : Link) → IsSound w → type_named w k from name ≡ Some p → assigned_link w p ≡ Some l → chain_of w bare ≡ chain_of w l
  reference_chain p l sound e f =
      let u = named_typed w k from name p e in
      at_place sound p u.0 e u.1 ∙ ap (chain_of w) (linked p u.0 l (type_at w p) u.1 f)
