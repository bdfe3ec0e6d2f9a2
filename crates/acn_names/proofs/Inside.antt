-- What is mentioned in a type that stands in a module is mentioned in one of its assignments.
use Rattle.std.proofs.Common.{◌≡◌, ℕ, List, [], ◌∷◌, ◌++◌, map, sym, ap, subst, inl, inr, ◌⊎◌}
use Rattle.std.specs.Prelude.{Option, Some, None, flat_map}
use Rattle.acn_num.specs.Names.{Name}
use Rattle.acn_asn_syntax.specs.Mirror.{AsnType, type_of, AsnBase, boolean, null, integer, enumerated, octet_string, bit_string, ia5_string, sequence, sequence_of, sequence_size, choice, reference, Constraints, no_constraints, and_constraint, Constraint, by_set, by_size, containing, Components, no_components, and_component, Alternatives, no_alternatives, and_alternative, Component, Alternative, Assign, TypeIs, ValueIs, component_list, alternative_list, constraint_list}
use Rattle.acn_mentions.specs.Mentions.{Mention, to_type, mentions, base_mentions, component_mentions, alternative_mentions, all_constraint_mentions, constraint_mentions, default_mentions, value_mentions, assign_mentions}
use Rattle.acn_index.specs.World.{World, place, assignment, type_of_assign}
use Rattle.acn_graph.specs.Graph.{Among, here, there}
use Rattle.acn_index.specs.Chains.{base_reference, reference_of}
use Rattle.acn_index.proofs.Left.{in_front, in_back}
use Rattle.acn_names.specs.Standing.{constraint_parts, base_parts, parts, Stands, assigned, inside}

-- ---- lists that are joined

either_part : {A : Type 0} {x : A} (xs : List A) {ys : List A} → Among x (xs ++ ys) → Among x xs ⊎ Among x ys
either_part [] i = inr i
either_part (z ∷ xs) here = inl here
either_part (z ∷ xs) (there i) = elim (either_part xs i) [ inl j ↦ inl (there j) | inr j ↦ inr j ]

-- ---- what is mentioned inside is mentioned

module _ {m : Mention} where
  only : {t u : AsnType} → Among u (t ∷ []) → Among m (mentions u) → Among m (mentions t)
  only here j = j
  only (there i) j = absurd (elim i [ ])

  component_in : {u : AsnType} (cs : Components) → Among u (map (λ (c : Component). c.of) (component_list cs)) → Among m (mentions u) → Among m (component_mentions cs)
  unfolding component_mentions
  component_in no_components i j = absurd (elim i [ ])
  component_in (and_component name t r more) here j = in_front (component_mentions more) (in_front (default_mentions t r) j)
  component_in (and_component name t r more) (there i) j = in_back (mentions t ++ default_mentions t r) (component_in more i j)

  alternative_in : {u : AsnType} (more : Alternatives) → Among u (map (λ (a : Alternative). a.of) (alternative_list more)) → Among m (mentions u) → Among m (alternative_mentions more)
  unfolding alternative_mentions
  alternative_in no_alternatives i j = absurd (elim i [ ])
  alternative_in (and_alternative name t more) here j = in_front (alternative_mentions more) j
  alternative_in (and_alternative name t more) (there i) j = in_back (mentions t) (alternative_in more i j)

  constraint_in : {u : AsnType} (g : Option AsnType) (c : Constraint) → Among u (constraint_parts c) → Among m (mentions u) → Among m (constraint_mentions g c)
  unfolding constraint_mentions
  constraint_in g (by_set s) i j = absurd (elim i [ ])
  constraint_in g (by_size s) i j = absurd (elim i [ ])
  constraint_in g (containing t) i j = only i j

  constraints_in : {u : AsnType} (g : Option AsnType) (cs : Constraints) → Among u (flat_map constraint_parts (constraint_list cs)) → Among m (mentions u) → Among m (all_constraint_mentions g cs)
  unfolding all_constraint_mentions
  constraints_in g no_constraints i j = absurd (elim i [ ])
  constraints_in g (and_constraint c more) i j = elim (either_part (constraint_parts c) i) [
    | inl k ↦ in_front (all_constraint_mentions g more) (constraint_in g c k j)
    | inr k ↦ in_back (constraint_mentions g c) (constraints_in g more k j)
  ]

  base_in : {u : AsnType} (b : AsnBase) → Among u (base_parts b) → Among m (mentions u) → Among m (base_mentions b)
  unfolding base_mentions
  base_in (sequence cs) i j = component_in cs i j
  base_in (choice more) i j = alternative_in more i j
  base_in (sequence_of t) i j = only i j
  base_in (sequence_size c t) i j = elim (either_part (constraint_parts c) i) [
    | inl k ↦ in_front (mentions t) (constraint_in None c k j)
    | inr k ↦ in_back (constraint_mentions None c) (only k j)
  ]
  base_in boolean i j = absurd (elim i [ ])
  base_in null i j = absurd (elim i [ ])
  base_in (integer ns) i j = absurd (elim i [ ])
  base_in (enumerated items) i j = absurd (elim i [ ])
  base_in octet_string i j = absurd (elim i [ ])
  base_in bit_string i j = absurd (elim i [ ])
  base_in ia5_string i j = absurd (elim i [ ])
  base_in (reference from name) i j = absurd (elim i [ ])

  part_in : {u : AsnType} (t : AsnType) → Among u (parts t) → Among m (mentions u) → Among m (mentions t)
  unfolding mentions
  part_in (type_of tag b cs) i j = elim (either_part (base_parts b) i) [
    | inl k ↦ in_front (all_constraint_mentions (Some (type_of tag b cs)) cs) (base_in b k j)
    | inr k ↦ in_back (base_mentions b) (constraints_in (Some (type_of tag b cs)) cs k j)
  ]

  of_assign : (a : Assign) → Among m (mentions (type_of_assign a)) → Among m (assign_mentions a)
  unfolding assign_mentions
  of_assign (TypeIs name t) i = i
  of_assign (ValueIs name t v) i = in_front (value_mentions v) i

-- a type whose mentions are all mentioned in an assignment of the module
abbrev pub IsInside : World → ℕ → AsnType → Type 0
IsInside w k t = (i : ℕ) × (a : Assign) × (assignment w (place k i) ≡ Some a) × ((m : Mention) → Among m (mentions t) → Among m (assign_mentions a))

pub stands_inside : (w : World) (k : ℕ) {t : AsnType} → Stands w k t → IsInside w k t
stands_inside w k (assigned i a e) = (i, a, e, λ m j. of_assign a j)
stands_inside w k (inside {t} i s) = let h = stands_inside w k s in (h.0, h.1, h.2, λ m j. h.3 m (part_in t i j))

-- ---- a type that is a reference mentions it

is_reference : (b : AsnBase) (r : Option Name × Name) → base_reference b ≡ Some r → b ≡ reference r.0 r.1
is_reference (reference from name) r e = let same : (from, name) ≡ r = cc e in ap (λ (z : Option Name × Name). reference z.0 z.1) same
is_reference (sequence cs) r e = absurd (cc e)
is_reference (choice more) r e = absurd (cc e)
is_reference (sequence_of t) r e = absurd (cc e)
is_reference (sequence_size c t) r e = absurd (cc e)
is_reference boolean r e = absurd (cc e)
is_reference null r e = absurd (cc e)
is_reference (integer ns) r e = absurd (cc e)
is_reference (enumerated items) r e = absurd (cc e)
is_reference octet_string r e = absurd (cc e)
is_reference bit_string r e = absurd (cc e)
is_reference ia5_string r e = absurd (cc e)

pub mentioned : (t : AsnType) (r : Option Name × Name) → reference_of t ≡ Some r → Among (to_type r.0 r.1) (mentions t)
unfolding mentions base_mentions
mentioned (type_of tag b cs) r e = in_front (all_constraint_mentions (Some (type_of tag b cs)) cs) (subst (λ (z : AsnBase). Among (to_type r.0 r.1) (base_mentions z)) (sym (is_reference b r e)) here)
