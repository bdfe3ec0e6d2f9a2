-- A type inside a proper type is proper, and has no more tokens.
use Rattle.std.proofs.Common.{◌≡◌, ℕ, ◌≤◌, Bool, true, ◌&&◌, List, [], ◌∷◌, ◌++◌, length, map, refl, subst, inl, inr, arith}
use Rattle.std.specs.Prelude.{codes, flat_map, if◌then◌else◌}
use Rattle.acn_lex.specs.Lexeme.{Lexeme}
use Rattle.acn_lex.specs.Words.{is_identifier}
use Rattle.acn_graph.specs.Graph.{Among, here, there}
use Rattle.acn_asn_syntax.specs.declared.types.Rest.{Rest}
use Rattle.acn_asn_syntax.specs.Mirror.{AsnType, type_of, AsnBase, boolean, null, integer, enumerated, octet_string, bit_string, ia5_string, sequence, sequence_of, sequence_size, choice, reference, Constraints, no_constraints, and_constraint, Constraint, by_set, by_size, containing, Components, no_components, and_component, Component, component_list, Alternatives, no_alternatives, and_alternative, Alternative, alternative_list, constraint_list}
use Rattle.acn_asn_syntax.specs.Spelling.{type_tokens, base_tokens, constraints_tokens, constraint_tokens, components_tokens, more_components, alternatives_tokens, more_alternatives, rest_tokens, type_fits, base_fits, constraints_fit, outer_fits, inner_fits, components_fit, alternatives_fit, rest_fits, tag_tokens, tag_fits, is_list, is_unconstrained}
use Rattle.acn_asn_syntax.specs.Values.{Tokens, word, mark, in_braces, option_tokens, option_fits}
use Rattle.acn_names.specs.Standing.{constraint_parts, base_parts, parts}
use Rattle.acn_source_laws.proofs.Lists.{and_left, and_right, either_part, in_front, in_back, behind_one}

-- the type is proper where the test holds, and has no more tokens than these
pub record IsWithin (u : AsnType) (ok : Bool) (ts : Tokens) : Type 0 where
  pub fits : ok ≡ true → type_fits u ≡ true
  pub few : length (type_tokens u) ≤ length ts

abbrev component_parts : Components → List AsnType
component_parts cs = map (λ (c : Component). c.of) (component_list cs)

abbrev alternative_parts : Alternatives → List AsnType
alternative_parts more = map (λ (a : Alternative). a.of) (alternative_list more)

module _ {u : AsnType} where
  pub itself : IsWithin u (type_fits u) (type_tokens u)
  itself = record { fits = λ h. h; few = omega arith }

  only : {t : AsnType} → Among u (t ∷ []) → IsWithin u (type_fits t) (type_tokens t)
  only here = itself
  only (there i) = absurd (elim i [ ])

  -- tests and tokens that stand before and behind
  pub left_test : (a b : Bool) (ts : Tokens) → IsWithin u a ts → IsWithin u (a && b) ts
  left_test a b ts h = record { fits = λ e. h.fits (and_left a b e); few = h.few }

  pub right_test : (a b : Bool) (ts : Tokens) → IsWithin u b ts → IsWithin u (a && b) ts
  right_test a b ts h = record { fits = λ e. h.fits (and_right a b e); few = h.few }

  pub front : (a : Bool) (ts us : Tokens) → IsWithin u a ts → IsWithin u a (ts ++ us)
  front a ts us h = record { fits = h.fits; few = in_front _ ts us h.few }

  pub back : (a : Bool) (ts us : Tokens) → IsWithin u a us → IsWithin u a (ts ++ us)
  back a ts us h = record { fits = h.fits; few = in_back _ ts us h.few }

  pub one : (a : Bool) (x : Lexeme) {ts : Tokens} → IsWithin u a ts → IsWithin u a (x ∷ ts)
  one a x {ts} h = record { fits = h.fits; few = behind_one _ x ts h.few }

  -- ---- constraints

  constraint_out : (c : Constraint) → Among u (constraint_parts c) → IsWithin u (outer_fits c) (constraint_tokens c)
  unfolding outer_fits constraint_tokens
  constraint_out (by_set s) i = absurd (elim i [ ])
  constraint_out (by_size s) i = absurd (elim i [ ])
  constraint_out (containing t) i = one (type_fits t) (mark (codes "(")) (one (type_fits t) (word (codes "CONTAINING")) (front (type_fits t) (type_tokens t) (mark (codes ")") ∷ []) (only i)))

  constraint_in : (c : Constraint) → Among u (constraint_parts c) → IsWithin u (inner_fits c) (constraint_tokens c)
  unfolding inner_fits constraint_tokens
  constraint_in (by_set s) i = absurd (elim i [ ])
  constraint_in (by_size s) i = absurd (elim i [ ])
  constraint_in (containing t) i = one (type_fits t) (mark (codes "(")) (one (type_fits t) (word (codes "CONTAINING")) (front (type_fits t) (type_tokens t) (mark (codes ")") ∷ []) (only i)))

  constraints_in : (cs : Constraints) → Among u (flat_map constraint_parts (constraint_list cs)) → IsWithin u (constraints_fit cs) (constraints_tokens cs)
  unfolding constraints_fit constraints_tokens
  constraints_in no_constraints i = absurd (elim i [ ])
  constraints_in (and_constraint c cs) i = elim (either_part (constraint_parts c) i) [
    | inl k ↦ left_test (outer_fits c) (constraints_fit cs) _ (front (outer_fits c) (constraint_tokens c) (constraints_tokens cs) (constraint_out c k))
    | inr k ↦ right_test (outer_fits c) (constraints_fit cs) _ (back (constraints_fit cs) (constraint_tokens c) (constraints_tokens cs) (constraints_in cs k))
  ]

  -- ---- components and alternatives

  -- one component, before the others
  first_component : (name : List ℕ) (t : AsnType) (r : Rest) (fit : Bool) (more : Tokens) → u ≡ t → IsWithin u (is_identifier name && type_fits t && rest_fits r && fit) (type_tokens t ++ rest_tokens r ++ more)
  first_component name t r fit more e =
      let own = subst (λ (v : AsnType). IsWithin u (type_fits v) (type_tokens v)) e itself in
      let within = front (type_fits t) (type_tokens t ++ rest_tokens r) more (front (type_fits t) (type_tokens t) (rest_tokens r) own) in
      let all = type_tokens t ++ rest_tokens r ++ more in
      left_test (is_identifier name && type_fits t && rest_fits r) fit all (left_test (is_identifier name && type_fits t) (rest_fits r) all (right_test (is_identifier name) (type_fits t) all within))

  other_component : (name : List ℕ) (t : AsnType) (r : Rest) (fit : Bool) (more : Tokens) → IsWithin u fit more → IsWithin u (is_identifier name && type_fits t && rest_fits r && fit) (type_tokens t ++ rest_tokens r ++ more)
  other_component name t r fit more h =
      let all = type_tokens t ++ rest_tokens r ++ more in
      right_test (is_identifier name && type_fits t && rest_fits r) fit all (back fit (type_tokens t ++ rest_tokens r) more h)

  more_component : (cs : Components) → Among u (component_parts cs) → IsWithin u (components_fit cs) (more_components cs)
  unfolding components_fit more_components
  more_component no_components i = absurd (elim i [ ])
  more_component (and_component name t r more) here = one _ (mark (codes ",")) (one _ (word name) (first_component name t r (components_fit more) (more_components more) refl))
  more_component (and_component name t r more) (there i) = one _ (mark (codes ",")) (one _ (word name) (other_component name t r (components_fit more) (more_components more) (more_component more i)))

  component_in : (cs : Components) → Among u (component_parts cs) → IsWithin u (components_fit cs) (components_tokens cs)
  unfolding components_fit components_tokens
  component_in no_components i = absurd (elim i [ ])
  component_in (and_component name t r more) here = one _ (word name) (first_component name t r (components_fit more) (more_components more) refl)
  component_in (and_component name t r more) (there i) = one _ (word name) (other_component name t r (components_fit more) (more_components more) (more_component more i))

  first_alternative : (name : List ℕ) (t : AsnType) (fit : Bool) (more : Tokens) → u ≡ t → IsWithin u (is_identifier name && type_fits t && fit) (type_tokens t ++ more)
  first_alternative name t fit more e =
      let own = subst (λ (v : AsnType). IsWithin u (type_fits v) (type_tokens v)) e itself in
      let all = type_tokens t ++ more in
      left_test (is_identifier name && type_fits t) fit all (right_test (is_identifier name) (type_fits t) all (front (type_fits t) (type_tokens t) more own))

  other_alternative : (name : List ℕ) (t : AsnType) (fit : Bool) (more : Tokens) → IsWithin u fit more → IsWithin u (is_identifier name && type_fits t && fit) (type_tokens t ++ more)
  other_alternative name t fit more h = right_test (is_identifier name && type_fits t) fit (type_tokens t ++ more) (back fit (type_tokens t) more h)

  more_alternative : (more : Alternatives) → Among u (alternative_parts more) → IsWithin u (alternatives_fit more) (more_alternatives more)
  unfolding alternatives_fit more_alternatives
  more_alternative no_alternatives i = absurd (elim i [ ])
  more_alternative (and_alternative name t more) here = one _ (mark (codes ",")) (one _ (word name) (first_alternative name t (alternatives_fit more) (more_alternatives more) refl))
  more_alternative (and_alternative name t more) (there i) = one _ (mark (codes ",")) (one _ (word name) (other_alternative name t (alternatives_fit more) (more_alternatives more) (more_alternative more i)))

  alternative_in : (more : Alternatives) → Among u (alternative_parts more) → IsWithin u (base_fits (choice more)) (alternatives_tokens more)
  unfolding base_fits alternatives_tokens
  alternative_in no_alternatives i = absurd (elim i [ ])
  alternative_in (and_alternative name t more) here = one _ (word name) (first_alternative name t (alternatives_fit more) (more_alternatives more) refl)
  alternative_in (and_alternative name t more) (there i) = one _ (word name) (other_alternative name t (alternatives_fit more) (more_alternatives more) (more_alternative more i))

  -- ---- types

  braced : (a : Bool) (name : List ℕ) (ts : Tokens) → IsWithin u a ts → IsWithin u a (word name ∷ in_braces ts)
  braced a name ts h = one a (word name) (one a (mark (codes "{")) (front a ts (mark (codes "}") ∷ []) h))

  base_in : (b : AsnBase) → Among u (base_parts b) → IsWithin u (base_fits b) (base_tokens b)
  unfolding base_fits base_tokens
  base_in (sequence cs) i = braced (components_fit cs) (codes "SEQUENCE") (components_tokens cs) (component_in cs i)
  base_in (choice more) i = braced (base_fits (choice more)) (codes "CHOICE") (alternatives_tokens more) (alternative_in more i)
  base_in (sequence_of t) i = one _ (word (codes "SEQUENCE")) (one _ (word (codes "OF")) (only i))
  base_in (sequence_size c t) i = elim (either_part (constraint_parts c) i) [
    | inl k ↦ left_test (inner_fits c) (type_fits t) _ (one _ (word (codes "SEQUENCE")) (front (inner_fits c) (constraint_tokens c) (word (codes "OF") ∷ type_tokens t) (constraint_in c k)))
    | inr k ↦ right_test (inner_fits c) (type_fits t) _ (one _ (word (codes "SEQUENCE")) (back (type_fits t) (constraint_tokens c) (word (codes "OF") ∷ type_tokens t) (one _ (word (codes "OF")) (only k))))
  ]
  base_in boolean i = absurd (elim i [ ])
  base_in null i = absurd (elim i [ ])
  base_in (integer ns) i = absurd (elim i [ ])
  base_in (enumerated items) i = absurd (elim i [ ])
  base_in octet_string i = absurd (elim i [ ])
  base_in bit_string i = absurd (elim i [ ])
  base_in ia5_string i = absurd (elim i [ ])
  base_in (reference from name) i = absurd (elim i [ ])

  -- what is one level inside a type
  pub part_in : (t : AsnType) → Among u (parts t) → IsWithin u (type_fits t) (type_tokens t)
  unfolding type_fits type_tokens
  part_in (type_of tag b cs) i =
      let last = if is_list b then is_unconstrained cs else true in
      let tag_ok = option_fits tag_fits tag in
      let tag_ts = option_tokens tag_tokens tag in
      let all = tag_ts ++ base_tokens b ++ constraints_tokens cs in
      elim (either_part (base_parts b) i) [
        | inl k ↦ left_test (tag_ok && base_fits b && constraints_fit cs) last all (left_test (tag_ok && base_fits b) (constraints_fit cs) all (right_test tag_ok (base_fits b) all
            (front (base_fits b) (tag_ts ++ base_tokens b) (constraints_tokens cs) (back (base_fits b) tag_ts (base_tokens b) (base_in b k)))))
        | inr k ↦ left_test (tag_ok && base_fits b && constraints_fit cs) last all (right_test (tag_ok && base_fits b) (constraints_fit cs) all
            (back (constraints_fit cs) (tag_ts ++ base_tokens b) (constraints_tokens cs) (constraints_in cs k)))
      ]
