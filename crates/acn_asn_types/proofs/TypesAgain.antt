-- Each proper type is read from its tokens.
use Rattle.std.proofs.Common.{◌≡◌, ℕ, zero, suc, ◌<◌, ◌≤◌, true, false, not, ◌&&◌, cond, List, [], ◌∷◌, ◌++◌, length, length-append, Option, Some, None, refl, sym, ap, subst, ◌∙◌, append_assoc, arith}
use Rattle.std.specs.Prelude.{codes, Ok}
use Rattle.std.specs.List.{flat_map, list_all}
use Rattle.std.specs.Str.{bytes_eq}
use Rattle.std.specs.Cmp.Derive.{both_true}
use Rattle.acn_lex.specs.declared.Kind.TheVariants.{Word, Mark}
use Rattle.acn_lex.specs.Lexeme.{Lexeme, same_kind}
use Rattle.acn_cursor.specs.Steps.{Parser, sees}
use Rattle.acn_lex.specs.Words.{is_identifier, is_reference, reserved}
use Rattle.acn_cursor.proofs.Laws.{then_again, eat_again, eat_nothing, expect_again, word_again, many_again, sees_again, sees_kind, sees_text}
use Rattle.acn_asn_syntax.specs.declared.types.Tag.{Tag}
use Rattle.acn_asn_syntax.specs.declared.types.Rest.{Rest}
use Rattle.acn_asn_syntax.specs.declared.types.Rest.TheVariants as rest
use Rattle.acn_asn_syntax.specs.declared.types.AsnBase.{AsnBase}
use Rattle.acn_asn_syntax.specs.declared.types.AsnBase.TheVariants as base
use Rattle.acn_asn_syntax.specs.declared.types.AsnType.{AsnType, roll-AsnType}
use Rattle.acn_asn_syntax.specs.declared.types.Constraint.{Constraint}
use Rattle.acn_asn_syntax.specs.declared.types.Constraint.TheVariants as constraint
use Rattle.acn_asn_syntax.specs.declared.types.Component.{Component, roll-Component}
use Rattle.acn_asn_syntax.specs.declared.types.Alternative.{Alternative}
use Rattle.acn_asn_syntax.specs.declared.sets.Set.{Set}
use Rattle.acn_asn_syntax.specs.declared.sets.Meet.{Meet}
use Rattle.acn_asn_syntax.specs.declared.sets.Part.{Part}
use Rattle.acn_asn_syntax.specs.Values.{word, mark, in_parentheses, with_commas, option_tokens, option_fits}
use Rattle.acn_asn_syntax.specs.Spelling.{tag_tokens, tag_fits, rest_tokens, rest_fits, ref_tokens}
use Rattle.acn_asn_syntax.specs.Trees.{set_tokens, set_fits, meet_tokens, meet_fits, part_tokens, part_fits, element_fits, type_tokens, base_tokens, constraint_tokens, component_tokens, alternative_tokens, type_fits, base_fits, outer_fits, inner_fits, component_fits, alternative_fits, is_list}
use Rattle.acn_asn_syntax.proofs.SetTokens as sets
use Rattle.acn_asn_syntax.proofs.SetTokens.{but_proper}
use Rattle.acn_asn_syntax.proofs.TypeTokens as form
use Rattle.acn_asn_syntax.proofs.TypeTokens.{is_none, ByBase}
use Rattle.acn_asn_types.specs.declared.heads.ListHead.{ListHead}
use Rattle.acn_asn_types.specs.declared.heads.Step.TheVariants as step
use Rattle.acn_asn_types.specs.Lists.{has_comma, listed}
use Rattle.acn_asn_types.specs.Bases.{simple_base}
use Rattle.acn_asn_types.specs.Sets.{set_at}
use Rattle.acn_asn_types.specs.Types.{has_paren, typed, component_of, alternative_of, list_type, containing_at, set_constraint, constraint_at, size_at, some_constraint, of_constraint, list_at, finish, component, components_at, alternative, choice_at, base_at, sequence_at, other_at, step_at, chain, type_in, type_at}
use Rattle.acn_asn_types.proofs.ValueLaws.{Passes}
use Rattle.acn_asn_types.proofs.SetsAgain.{closing, set_again, element_word, IsOtherHere}
use Rattle.acn_asn_types.proofs.ListLaws.{pass_all, listed_again}
use Rattle.acn_asn_types.proofs.BaseLaws.{BeginsBase, tag_again, rest_again, EndsRest}
use Rattle.acn_asn_types.proofs.SimpleLaws.{plain_fits, fits_by, EndsBase, not_reserved, again_Boolean, again_Null, again_Ia5String, again_OctetString, again_BitString, again_Integer, again_Enumerated, again_Ref}
use Rattle.acn_asn_types.proofs.TypesFound.{head_tokens, list_by, list_is, list_fits_by}
use Rattle.std.proofs.lemmas.Bool.{and_parts}

-- behind a type
pub record EndsType (r : List Lexeme) : Type 0 where
  pub paren : sees Mark (codes "(") r ≡ false
  pub brace : sees Mark (codes "{") r ≡ false
  pub dot : sees Mark (codes ".") r ≡ false

pub word_ends : (text : List ℕ) (r : List Lexeme) → EndsType (word text ∷ r)
unfolding same_kind
word_ends text r = record { paren = sees_kind _ _ _ _ _ refl; brace = sees_kind _ _ _ _ _ refl; dot = sees_kind _ _ _ _ _ refl }

pub comma_ends : (r : List Lexeme) → EndsType (mark (codes ",") ∷ r)
comma_ends r = record { paren = sees_text _ _ _ _ refl; brace = sees_text _ _ _ _ refl; dot = sees_text _ _ _ _ refl }

pub brace_ends : (r : List Lexeme) → EndsType (mark (codes "}") ∷ r)
brace_ends r = record { paren = sees_text _ _ _ _ refl; brace = sees_text _ _ _ _ refl; dot = sees_text _ _ _ _ refl }

pub closing_ends : (r : List Lexeme) → EndsType (closing r)
closing_ends r = record { paren = sees_text _ _ _ _ refl; brace = sees_text _ _ _ _ refl; dot = sees_text _ _ _ _ refl }

-- ---- a set does not begin with CONTAINING

is_containing : IsOtherHere (codes "CONTAINING")
unfolding is_identifier
is_containing = record { plain = record { is_upper = refl; is_not_true = refl; is_not_false = refl; is_not_null = refl }; is_not_min = refl; is_not_size = refl; is_not_from = refl }

part_word : (x : Part) (r : List Lexeme) → Passes part_fits x → sees Word (codes "CONTAINING") (part_tokens x ++ r) ≡ false
part_word x r = sets.by_part (λ x. Passes part_fits x → sees Word (codes "CONTAINING") (part_tokens x ++ r) ≡ false)
    (λ e but fits. rw (sets.tokens_part e but, append_assoc) (element_word e _ _ (and_parts (element_fits e) _ (sym (sets.fits_part e but) ∙ fits)).0 is_containing))
    x

meet_word : (x : Meet) (r : List Lexeme) → Passes meet_fits x → sees Word (codes "CONTAINING") (meet_tokens x ++ r) ≡ false
meet_word x r = sets.by_meet (λ x. Passes meet_fits x → sees Word (codes "CONTAINING") (meet_tokens x ++ r) ≡ false)
    (λ first more fits. rw (sets.tokens_meet first more, append_assoc) (part_word first _ (and_parts (part_fits first) _ (sym (sets.fits_meet first more) ∙ fits)).0))
    x

set_word : (x : Set) (r : List Lexeme) → Passes set_fits x → sees Word (codes "CONTAINING") (set_tokens x ++ r) ≡ false
set_word x r = sets.by_set (λ x. Passes set_fits x → sees Word (codes "CONTAINING") (set_tokens x ++ r) ≡ false)
    (λ e fits. rw (sets.tokens_AllExcept e) (sees_text _ _ _ _ refl))
    (λ m more fits. rw (sets.tokens_Union m more, append_assoc) (meet_word m _ (and_parts (meet_fits m) _ (sym (sets.fits_Union m more) ∙ fits)).0))
    x

-- ---- a constraint behind a type begins with a parenthesis

constraint_mark : (c : Constraint) (r : List Lexeme) → Passes outer_fits c → (sees Mark (codes "(") (constraint_tokens c ++ r) ≡ true) × (sees Mark (codes "{") (constraint_tokens c ++ r) ≡ false) × (sees Mark (codes ".") (constraint_tokens c ++ r) ≡ false)
constraint_mark c r = form.by_constraint (λ c. Passes outer_fits c → (sees Mark (codes "(") (constraint_tokens c ++ r) ≡ true) × (sees Mark (codes "{") (constraint_tokens c ++ r) ≡ false) × (sees Mark (codes ".") (constraint_tokens c ++ r) ≡ false))
    (λ s f. rw (form.tokens_Set s) (sees_again _ _ _, sees_text _ _ _ _ refl, sees_text _ _ _ _ refl))
    (λ s f. let z : false ≡ true = sym (form.fits_Size s).0 ∙ f in absurd cc)
    (λ t f. rw (form.tokens_Containing t) (sees_again _ _ _, sees_text _ _ _ _ refl, sees_text _ _ _ _ refl))
    c

constraint_some : (c : Constraint) → Passes outer_fits c → 0 < length (constraint_tokens c)
constraint_some c = form.by_constraint (λ c. Passes outer_fits c → 0 < length (constraint_tokens c))
    (λ s f. rw (form.tokens_Set s) (omega arith))
    (λ s f. let z : false ≡ true = sym (form.fits_Size s).0 ∙ f in absurd cc)
    (λ t f. rw (form.tokens_Containing t) (omega arith))
    c

constraints_end : (cs : List Constraint) (r : List Lexeme) → list_all outer_fits cs ≡ true → EndsType r → EndsBase (flat_map constraint_tokens cs ++ r)
constraints_end [] r f ends = record { brace = ends.brace; dot = ends.dot }
constraints_end (c ∷ cs) r f ends =
    let g = and_parts (outer_fits c) (list_all outer_fits cs) f in
    let m = constraint_mark c (flat_map constraint_tokens cs ++ r) g.0 in
    rw (append_assoc (constraint_tokens c) (flat_map constraint_tokens cs) r) (record { brace = m.1; dot = m.2 })

-- ---- what a base begins with

record IsBaseWord (w : List ℕ) : Type 0 where
  sequence : bytes_eq w (codes "SEQUENCE") ≡ false
  choice : bytes_eq w (codes "CHOICE") ≡ false
  implicit : bytes_eq w (codes "IMPLICIT") ≡ false
  explicit : bytes_eq w (codes "EXPLICIT") ≡ false

abbrev Begins : List ℕ → List Lexeme → List Lexeme → Type 0
Begins w more ts = ts ≡ word w ∷ more

begins_base : (w : List ℕ) (ts : List Lexeme) → bytes_eq w (codes "IMPLICIT") ≡ false → bytes_eq w (codes "EXPLICIT") ≡ false → BeginsBase (word w ∷ ts)
unfolding same_kind
begins_base w ts i e = record { implicit = sees_text _ _ _ _ i; explicit = sees_text _ _ _ _ e; bracket = sees_kind _ _ _ _ _ refl }

-- a type has a token
base_some : (b : AsnBase) → 0 < length (base_tokens b)
unfolding ref_tokens
base_some b = form.by_base (λ b. 0 < length (base_tokens b)) (record {
  boolean = rw form.tokens_Boolean (omega arith);
  null = rw form.tokens_Null (omega arith);
  integer = λ ns. rw (form.tokens_Integer ns) (omega arith);
  enumerated = λ items. rw (form.tokens_Enumerated items) (omega arith);
  octet_string = rw form.tokens_OctetString (omega arith);
  bit_string = rw form.tokens_BitString (omega arith);
  ia5_string = rw form.tokens_Ia5String (omega arith);
  sequence = λ cs. rw (form.tokens_Sequence cs) (omega arith);
  sequence_of = λ t. rw (form.tokens_Of t) (omega arith);
  sequence_size = λ c t. rw (form.tokens_SizeOf c t) (omega arith);
  choice = λ more. rw (form.tokens_Choice more) (omega arith);
  reference = λ from name. rw (form.tokens_Ref from name) (some_ref from name);
}) b
  where
    some_ref : (from : Option (List ℕ)) (name : List ℕ) → 0 < length (ref_tokens from name)
    some_ref None name = omega arith
    some_ref (Some f) name = omega arith

pub type_some : (t : AsnType) → 0 < length (type_tokens t)
type_some t = form.by_type (λ t. 0 < length (type_tokens t))
    (λ tag b cs. rw (form.tokens_type tag b cs) (omega (arith, base_some b, length-append (option_tokens tag_tokens tag ++ base_tokens b) (flat_map constraint_tokens cs), length-append (option_tokens tag_tokens tag) (base_tokens b))))
    t

-- ---- over parsers of what stands in parentheses and braces

module _ (limit : ℕ) (set : Parser Set)
    (set_again : (s : Set) (r : List Lexeme) → length (set_tokens s ++ closing r) ≤ limit → Passes set_fits s → set (set_tokens s ++ closing r) ≡ Ok (s, closing r))
    (inner : Parser AsnType)
    (again : (t : AsnType) (r : List Lexeme) → length (type_tokens t ++ r) ≤ limit → Passes type_fits t → EndsType r → inner (type_tokens t ++ r) ≡ Ok (t, r)) where
  set_in : (s : Set) (r : List Lexeme) → length (in_parentheses (set_tokens s) ++ r) ≤ suc limit → length (set_tokens s ++ closing r) ≤ limit
  set_in s r bound = let regroup : (set_tokens s ++ mark (codes ")") ∷ []) ++ r ≡ set_tokens s ++ closing r = append_assoc (set_tokens s) (mark (codes ")") ∷ []) r in omega (arith, ap length regroup)

  set_again_in : (s : Set) (r : List Lexeme) → length (in_parentheses (set_tokens s) ++ r) ≤ suc limit → Passes set_fits s → constraint_at set inner (in_parentheses (set_tokens s) ++ r) ≡ Ok (constraint.Set s, r)
  unfolding constraint_at set_constraint
  set_again_in s r bound f =
      simp append_assoc
      (then_again _ _ _ _ _ (expect_again _ _ _)
      (then_again _ _ _ _ _ (eat_nothing _ _ _ (set_word s (closing r) f))
      (then_again _ _ _ _ _ (set_again s r (set_in s r bound) f)
      (then_again _ _ _ _ _ (expect_again _ _ _) refl))))

  containing_again : (t : AsnType) (r : List Lexeme) → length (in_parentheses (word (codes "CONTAINING") ∷ type_tokens t) ++ r) ≤ suc limit → Passes type_fits t → constraint_at set inner (in_parentheses (word (codes "CONTAINING") ∷ type_tokens t) ++ r) ≡ Ok (constraint.Containing t, r)
  unfolding constraint_at containing_at
  containing_again t r bound f =
      let regroup : (type_tokens t ++ mark (codes ")") ∷ []) ++ r ≡ type_tokens t ++ closing r = append_assoc (type_tokens t) (mark (codes ")") ∷ []) r in
      let within : length (type_tokens t ++ closing r) ≤ limit = omega (arith, ap length regroup) in
      simp append_assoc
      (then_again _ _ _ _ _ (expect_again _ _ _)
      (then_again _ _ _ _ _ (eat_again _ _ _)
      (then_again _ _ _ _ _ (again t (closing r) within f (closing_ends r))
      (then_again _ _ _ _ _ (expect_again _ _ _) refl))))

  constraint_again : (c : Constraint) (r : List Lexeme) → length (constraint_tokens c ++ r) ≤ suc limit → Passes outer_fits c → constraint_at set inner (constraint_tokens c ++ r) ≡ Ok (c, r)
  constraint_again c r = form.by_constraint (λ c. length (constraint_tokens c ++ r) ≤ suc limit → Passes outer_fits c → constraint_at set inner (constraint_tokens c ++ r) ≡ Ok (c, r))
      (λ s bound f. rw (form.tokens_Set s) (set_again_in s r (subst (λ z. length (z ++ r) ≤ suc limit) (form.tokens_Set s) bound) (sym (form.fits_Set s).0 ∙ f)))
      (λ s bound f. let z : false ≡ true = sym (form.fits_Size s).0 ∙ f in absurd cc)
      (λ t bound f. rw (form.tokens_Containing t) (containing_again t r (subst (λ z. length (z ++ r) ≤ suc limit) (form.tokens_Containing t) bound) (sym (form.fits_Containing t).0 ∙ f)))
      c

  abbrev before_of : List Lexeme → List Lexeme
  before_of r = word (codes "OF") ∷ r

  of_some : (c : Constraint) (r : List Lexeme) → length (constraint_tokens c ++ r) ≤ suc limit → Passes inner_fits c → of_constraint set inner (constraint_tokens c ++ r) ≡ Ok (Some c, r)
  unfolding of_constraint size_at some_constraint has_paren same_kind
  of_some c r = form.by_constraint (λ c. length (constraint_tokens c ++ r) ≤ suc limit → Passes inner_fits c → of_constraint set inner (constraint_tokens c ++ r) ≡ Ok (Some c, r))
      (λ s bound f.
      let one = set_again_in s r (subst (λ z. length (z ++ r) ≤ suc limit) (form.tokens_Set s) bound) (sym (form.fits_Set s).1 ∙ f) in
      rw (form.tokens_Set s)
      (then_again _ _ _ _ _ (eat_nothing _ _ _ (sees_kind _ _ _ _ _ refl))
      (rw (sees_again Mark (codes "(") ((set_tokens s ++ mark (codes ")") ∷ []) ++ r)) (then_again _ _ _ _ _ one refl))))
      (λ s bound f.
      let within = set_in s r (let z : length ((word (codes "SIZE") ∷ in_parentheses (set_tokens s)) ++ r) ≤ suc limit = subst (λ z. length (z ++ r) ≤ suc limit) (form.tokens_Size s) bound in omega arith) in
      rw (form.tokens_Size s)
      (simp append_assoc
      (then_again _ _ _ _ _ (eat_again _ _ _)
      (then_again _ _ _ _ _ (expect_again _ _ _)
      (then_again _ _ _ _ _ (set_again s r within (sym (form.fits_Size s).1 ∙ f))
      (then_again _ _ _ _ _ (expect_again _ _ _) refl))))))
      (λ t bound f.
      let one = containing_again t r (subst (λ z. length (z ++ r) ≤ suc limit) (form.tokens_Containing t) bound) (sym (form.fits_Containing t).1 ∙ f) in
      rw (form.tokens_Containing t)
      (then_again _ _ _ _ _ (eat_nothing _ _ _ (sees_kind _ _ _ _ _ refl))
      (rw (sees_again Mark (codes "(") (((word (codes "CONTAINING") ∷ type_tokens t) ++ mark (codes ")") ∷ []) ++ r)) (then_again _ _ _ _ _ one refl))))
      c

  of_again : (o : Option Constraint) (r : List Lexeme) → length (option_tokens constraint_tokens o ++ before_of r) ≤ suc limit → option_fits inner_fits o ≡ true → of_constraint set inner (option_tokens constraint_tokens o ++ before_of r) ≡ Ok (o, before_of r)
  unfolding of_constraint has_paren same_kind
  of_again None r bound f =
      then_again _ _ _ _ _ (eat_nothing _ _ _ (sees_text _ _ _ _ refl))
      (rw (sees_kind Mark Word (codes "(") (codes "OF") r refl) refl)
  of_again (Some c) r bound f = of_some c (before_of r) bound f

  paren_starts : (c : Constraint) (r : List Lexeme) → Passes outer_fits c → has_paren (constraint_tokens c ++ r) ≡ true
  unfolding has_paren
  paren_starts c r f = (constraint_mark c r f).0

  finish_again : (tag : Option Tag) (b : AsnBase) (cs : List Constraint) (r : List Lexeme) → length (flat_map constraint_tokens cs ++ r) ≤ suc limit → list_all outer_fits cs ≡ true → EndsType r
      → finish set inner tag b (flat_map constraint_tokens cs ++ r) ≡ Ok (step.Inner (typed tag b cs), r)
  unfolding finish has_paren
  finish_again tag b cs r bound f ends =
      then_again _ _ _ _ _ (many_again has_paren (constraint_at set inner) constraint_tokens (Passes outer_fits) (λ _. Unit {0}) (suc limit) (λ c r bound f _. constraint_again c r bound f) paren_starts (λ _ _ _. tt) constraint_some cs r bound (pass_all outer_fits cs f) tt ends.paren) refl

  abbrev tail_tokens : List Constraint → List Lexeme → List Lexeme
  tail_tokens cs r = flat_map constraint_tokens cs ++ r

  -- a step reads a type with this base
  abbrev Steps : AsnBase → Type 0
  Steps b = (tag : Option Tag) (cs : List Constraint) (r : List Lexeme) → length (base_tokens b ++ tail_tokens cs r) ≤ suc limit → option_fits tag_fits tag ≡ true → plain_fits b ≡ true → list_all outer_fits cs ≡ true → EndsType r
      → step_at set inner (option_tokens tag_tokens tag ++ (base_tokens b ++ tail_tokens cs r)) ≡ Ok (step.Inner (typed tag b cs), r)

  tail_in : (ts : List Lexeme) (cs : List Constraint) (r : List Lexeme) → length (ts ++ tail_tokens cs r) ≤ suc limit → length (tail_tokens cs r) ≤ suc limit
  tail_in ts cs r bound = omega (arith, length-append ts (tail_tokens cs r))

  simple_step : (b : AsnBase) (w : List ℕ) (more : List Lexeme) → base_tokens b ≡ word w ∷ more → IsBaseWord w → (plain_fits b ≡ true → (m : List Lexeme) → EndsBase m → simple_base (base_tokens b ++ m) ≡ Ok (b, m)) → Steps b
  unfolding step_at other_at base_at
  simple_step b w more e k one tag cs r bound f g h ends =
      let m = tail_tokens cs r in
      let read = one g m (constraints_end cs r h ends) in
      let begins : BeginsBase (base_tokens b ++ m) = rw e (begins_base w (more ++ m) k.implicit k.explicit) in
      let no_sequence : sees Word (codes "SEQUENCE") (base_tokens b ++ m) ≡ false = rw e (sees_text _ _ _ _ k.sequence) in
      let no_choice : sees Word (codes "CHOICE") (base_tokens b ++ m) ≡ false = rw e (sees_text _ _ _ _ k.choice) in
      then_again _ _ _ _ _ (tag_again tag (base_tokens b ++ m) f begins)
      (then_again _ _ _ _ _ (eat_nothing _ _ _ no_sequence)
      (then_again _ _ _ _ _ (then_again _ _ _ _ _ (eat_nothing _ _ _ no_choice) read)
      (finish_again tag b cs r (tail_in (base_tokens b) cs r bound) h ends)))

  -- ---- alternatives and components

  alternative_again : (x : Alternative) (r : List Lexeme) → length (alternative_tokens x ++ r) ≤ limit → Passes alternative_fits x → EndsType r → alternative set inner (alternative_tokens x ++ r) ≡ Ok (x, r)
  unfolding alternative alternative_of
  alternative_again x r = form.by_alternative (λ x. length (alternative_tokens x ++ r) ≤ limit → Passes alternative_fits x → EndsType r → alternative set inner (alternative_tokens x ++ r) ≡ Ok (x, r))
      (λ name t bound fits ends.
      let f = and_parts (is_identifier name) (type_fits t) (sym (form.fits_alternative name t) ∙ fits) in
      let b : length ((word name ∷ type_tokens t) ++ r) ≤ limit = subst (λ z. length (z ++ r) ≤ limit) (form.tokens_alternative name t) bound in
      rw (form.tokens_alternative name t)
      (then_again _ _ _ _ _ (word_again _ name _ f.0)
      (then_again _ _ _ _ _ (again t r (omega arith) f.1 ends) refl)))
      x

  -- behind a component
  record EndsComponent (r : List Lexeme) : Type 0 where
    of : EndsType r
    rest : EndsRest r

  component_comma : (r : List Lexeme) → EndsComponent (mark (codes ",") ∷ r)
  unfolding same_kind
  component_comma r = record { of = comma_ends r; rest = record { optional = sees_kind _ _ _ _ _ refl; default = sees_kind _ _ _ _ _ refl } }

  component_brace : (r : List Lexeme) → EndsComponent (mark (codes "}") ∷ r)
  unfolding same_kind
  component_brace r = record { of = brace_ends r; rest = record { optional = sees_kind _ _ _ _ _ refl; default = sees_kind _ _ _ _ _ refl } }

  type_before : (x : Rest) (r : List Lexeme) → EndsType r → EndsType (rest_tokens x ++ r)
  unfolding rest_tokens
  type_before rest.Required r ends = ends
  type_before rest.Optional r ends = word_ends _ _
  type_before (rest.Default v) r ends = word_ends _ _

  component_again : (x : Component) (r : List Lexeme) → length (component_tokens x ++ r) ≤ limit → Passes component_fits x → EndsComponent r → component set inner (component_tokens x ++ r) ≡ Ok (x, r)
  unfolding component component_of
  component_again x r = form.by_component (λ x. length (component_tokens x ++ r) ≤ limit → Passes component_fits x → EndsComponent r → component set inner (component_tokens x ++ r) ≡ Ok (x, r))
      (λ name t z bound fits ends.
      let f = and_parts (is_identifier name && type_fits t) (rest_fits z) (sym (form.fits_component name t z) ∙ fits) in
      let g = and_parts (is_identifier name) (type_fits t) f.0 in
      let whole : component_tokens (roll-Component (record { name = name; of = t; rest = z })) ++ r ≡ word name ∷ (type_tokens t ++ (rest_tokens z ++ r)) = rw (form.tokens_component name t z) (ap (λ k. word name ∷ k) (append_assoc (type_tokens t) (rest_tokens z) r)) in
      let b : length (word name ∷ (type_tokens t ++ (rest_tokens z ++ r))) ≤ limit = subst (λ k. length k ≤ limit) whole bound in
      rw whole
      (then_again _ _ _ _ _ (word_again _ name _ g.0)
      (then_again _ _ _ _ _ (again t (rest_tokens z ++ r) (omega arith) g.1 (type_before z r ends.of))
      (then_again _ _ _ _ _ (rest_again z r f.1 ends.rest) refl))))
      x

  component_first : (c : Component) (r : List Lexeme) → sees Mark (codes "}") (component_tokens c ++ r) ≡ false
  unfolding same_kind
  component_first c r = form.by_component (λ c. sees Mark (codes "}") (component_tokens c ++ r) ≡ false) (λ name t z. rw (form.tokens_component name t z) (sees_kind _ _ _ _ _ refl)) c

  abbrev closed : List Lexeme → List Lexeme
  closed r = mark (codes "}") ∷ r

  components_again : (cs : List Component) (r : List Lexeme) → length (with_commas component_tokens cs ++ closed r) ≤ limit → list_all component_fits cs ≡ true → components_at set inner (with_commas component_tokens cs ++ closed r) ≡ Ok (cs, r)
  unfolding components_at has_comma
  components_again [] r bound f = then_again _ _ _ _ _ (eat_again _ _ _) refl
  components_again (c ∷ cs) r bound f =
      let first : sees Mark (codes "}") (with_commas component_tokens (c ∷ cs) ++ closed r) ≡ false = rw (append_assoc (component_tokens c) _ (closed r)) (component_first c _) in
      then_again _ _ _ _ _ (eat_nothing _ _ _ first)
      (then_again _ _ _ _ _ (listed_again (component set inner) component_tokens component_fits EndsComponent limit component_again component_comma c cs (closed r) bound f (component_brace r) (sees_text _ _ _ _ refl))
      (then_again _ _ _ _ _ (expect_again _ _ _) refl))

  alternatives_again : (more : List Alternative) (r : List Lexeme) → length (with_commas alternative_tokens more ++ closed r) ≤ limit → base_fits (base.Choice more) ≡ true → listed (alternative set inner) (with_commas alternative_tokens more ++ closed r) ≡ Ok (more, closed r)
  unfolding has_comma
  alternatives_again [] r bound f = let z : false ≡ true = sym form.fits_no_choice ∙ f in absurd cc
  alternatives_again (a ∷ more) r bound f = listed_again (alternative set inner) alternative_tokens alternative_fits EndsType limit alternative_again comma_ends a more (closed r) bound (sym (form.fits_Choice a more) ∙ f) (brace_ends r) (sees_text _ _ _ _ refl)

  choice_step : (more : List Alternative) → Steps (base.Choice more)
  unfolding step_at other_at base_at choice_at
  choice_step more tag cs r bound f g h ends =
      let m = tail_tokens cs r in
      let spelled : base_tokens (base.Choice more) ++ m ≡ word (codes "CHOICE") ∷ mark (codes "{") ∷ (with_commas alternative_tokens more ++ closed m) = rw (form.tokens_Choice more) (ap (λ z. word (codes "CHOICE") ∷ mark (codes "{") ∷ z) (append_assoc (with_commas alternative_tokens more) (mark (codes "}") ∷ []) m)) in
      let b : length (word (codes "CHOICE") ∷ mark (codes "{") ∷ (with_commas alternative_tokens more ++ closed m)) ≤ suc limit = subst (λ z. length z ≤ suc limit) spelled bound in
      rw spelled
      (then_again _ _ _ _ _ (tag_again tag _ f (begins_base (codes "CHOICE") (mark (codes "{") ∷ (with_commas alternative_tokens more ++ closed m)) refl refl))
      (then_again _ _ _ _ _ (eat_nothing _ _ _ (sees_text _ _ _ _ refl))
      (then_again _ _ _ _ _
      (then_again _ _ _ _ _ (eat_again _ _ _)
      (then_again _ _ _ _ _ (expect_again _ _ _)
      (then_again _ _ _ _ _ (alternatives_again more m (omega arith) (fits_by _ g))
      (then_again _ _ _ _ _ (expect_again _ _ _) refl))))
      (finish_again tag (base.Choice more) cs r (tail_in (base_tokens (base.Choice more)) cs r bound) h ends))))

  sequence_step : (components : List Component) → Steps (base.Sequence components)
  unfolding step_at sequence_at
  sequence_step components tag cs r bound f g h ends =
      let m = tail_tokens cs r in
      let spelled : base_tokens (base.Sequence components) ++ m ≡ word (codes "SEQUENCE") ∷ mark (codes "{") ∷ (with_commas component_tokens components ++ closed m) = rw (form.tokens_Sequence components) (ap (λ z. word (codes "SEQUENCE") ∷ mark (codes "{") ∷ z) (append_assoc (with_commas component_tokens components) (mark (codes "}") ∷ []) m)) in
      let b : length (word (codes "SEQUENCE") ∷ mark (codes "{") ∷ (with_commas component_tokens components ++ closed m)) ≤ suc limit = subst (λ z. length z ≤ suc limit) spelled bound in
      rw spelled
      (then_again _ _ _ _ _ (tag_again tag _ f (begins_base (codes "SEQUENCE") (mark (codes "{") ∷ (with_commas component_tokens components ++ closed m)) refl refl))
      (then_again _ _ _ _ _ (eat_again _ _ _)
      (then_again _ _ _ _ _ (eat_again _ _ _)
      (then_again _ _ _ _ _ (components_again components m (omega arith) (sym (form.fits_Sequence components) ∙ fits_by _ g))
      (finish_again tag (base.Sequence components) cs r (tail_in (base_tokens (base.Sequence components)) cs r bound) h ends)))))

  no_list : (b : AsnBase) → is_list b ≡ true → plain_fits b ≡ true → ⊥
  unfolding plain_fits
  no_list b l f = let z : not (is_list b) ≡ false = ap not l in let k = (and_parts (base_fits b) (not (is_list b)) f).1 in absurd (cc (z, k))

  base_word : (w : List ℕ) → bytes_eq w (codes "SEQUENCE") ≡ false → bytes_eq w (codes "CHOICE") ≡ false → bytes_eq w (codes "IMPLICIT") ≡ false → bytes_eq w (codes "EXPLICIT") ≡ false → IsBaseWord w
  base_word w a b c d = record { sequence = a; choice = b; implicit = c; explicit = d }

  reference_step : (from : Option (List ℕ)) (name : List ℕ) → Steps (base.Ref from name)
  unfolding ref_tokens reserved
  reference_step None name tag cs r bound f g =
      let k = and_parts (option_fits is_reference None) (is_reference name) (sym (form.fits_Ref None name) ∙ fits_by _ g) in
      let w = base_word name (not_reserved name _ k.1 refl) (not_reserved name _ k.1 refl) (not_reserved name _ k.1 refl) (not_reserved name _ k.1 refl) in
      simple_step (base.Ref None name) name [] (form.tokens_Ref None name) w (λ g m ends. again_Ref None name m g ends) tag cs r bound f g
  reference_step (Some from) name tag cs r bound f g =
      let k = and_parts (option_fits is_reference (Some from)) (is_reference name) (sym (form.fits_Ref (Some from) name) ∙ fits_by _ g) in
      let w = base_word from (not_reserved from _ k.0 refl) (not_reserved from _ k.0 refl) (not_reserved from _ k.0 refl) (not_reserved from _ k.0 refl) in
      simple_step (base.Ref (Some from) name) from (mark (codes ".") ∷ word name ∷ []) (form.tokens_Ref (Some from) name) w (λ g m ends. again_Ref (Some from) name m g ends) tag cs r bound f g

  base_step : (b : AsnBase) → Steps b
  base_step b = form.by_base Steps (record {
    boolean = simple_step base.Boolean (codes "BOOLEAN") [] form.tokens_Boolean (base_word _ refl refl refl refl) (λ g m ends. again_Boolean m);
    null = simple_step base.Null (codes "NULL") [] form.tokens_Null (base_word _ refl refl refl refl) (λ g m ends. again_Null m);
    integer = λ ns. simple_step (base.Integer ns) (codes "INTEGER") _ (form.tokens_Integer ns) (base_word _ refl refl refl refl) (λ g m ends. again_Integer ns m g ends);
    enumerated = λ items. simple_step (base.Enumerated items) (codes "ENUMERATED") _ (form.tokens_Enumerated items) (base_word _ refl refl refl refl) (λ g m ends. again_Enumerated items m g);
    octet_string = simple_step base.OctetString (codes "OCTET") _ form.tokens_OctetString (base_word _ refl refl refl refl) (λ g m ends. again_OctetString m);
    bit_string = simple_step base.BitString (codes "BIT") _ form.tokens_BitString (base_word _ refl refl refl refl) (λ g m ends. again_BitString m);
    ia5_string = simple_step base.Ia5String (codes "IA5String") [] form.tokens_Ia5String (base_word _ refl refl refl refl) (λ g m ends. again_Ia5String m);
    sequence = sequence_step;
    sequence_of = λ t tag cs r bound f g. absurd (no_list (base.SequenceOf None t) (form.list_Of t) g);
    sequence_size = λ c t tag cs r bound f g. absurd (no_list (base.SequenceOf (Some c) t) (form.list_SizeOf c t) g);
    choice = choice_step;
    reference = reference_step;
  }) b

  -- ---- chains of list types

  no_brace : (c : Option Constraint) (m : List Lexeme) → sees Mark (codes "{") (option_tokens constraint_tokens c ++ before_of m) ≡ false
  unfolding same_kind
  no_brace None m = sees_kind _ _ _ _ _ refl
  no_brace (Some c) m = form.by_constraint (λ c. sees Mark (codes "{") (constraint_tokens c ++ before_of m) ≡ false)
      (λ s. rw (form.tokens_Set s) (sees_text _ _ _ _ refl))
      (λ s. rw (form.tokens_Size s) (sees_kind _ _ _ _ _ refl))
      (λ t. rw (form.tokens_Containing t) (sees_text _ _ _ _ refl))
      c

  head_step : (tag : Option Tag) (c : Option Constraint) (m : List Lexeme) → length (head_tokens (record { tag = tag; constraint = c }) ++ m) ≤ suc limit → option_fits tag_fits tag ≡ true → option_fits inner_fits c ≡ true
      → step_at set inner (head_tokens (record { tag = tag; constraint = c }) ++ m) ≡ Ok (step.Head (record { tag = tag; constraint = c }), m)
  unfolding step_at sequence_at list_at
  head_step tag c m bound f g =
      let regroup : head_tokens (record { tag = tag; constraint = c }) ++ m ≡ option_tokens tag_tokens tag ++ word (codes "SEQUENCE") ∷ (option_tokens constraint_tokens c ++ before_of m) = simp append_assoc refl in
      let whole : length (option_tokens tag_tokens tag ++ word (codes "SEQUENCE") ∷ (option_tokens constraint_tokens c ++ before_of m)) ≤ suc limit = subst (λ z. length z ≤ suc limit) regroup bound in
      let within : length (option_tokens constraint_tokens c ++ before_of m) ≤ suc limit = omega (arith, length-append (option_tokens tag_tokens tag) (word (codes "SEQUENCE") ∷ (option_tokens constraint_tokens c ++ before_of m))) in
      rw regroup
      (then_again _ _ _ _ _ (tag_again tag _ f (begins_base (codes "SEQUENCE") (option_tokens constraint_tokens c ++ before_of m) refl refl))
      (then_again _ _ _ _ _ (eat_again _ _ _)
      (then_again _ _ _ _ _ (eat_nothing _ _ _ (no_brace c m))
      (then_again _ _ _ _ _ (of_again c m within g)
      (then_again _ _ _ _ _ (expect_again _ _ _) refl)))))

  abbrev Chained : ℕ → AsnType → Type 0
  Chained n t = (r : List Lexeme) → length (type_tokens t ++ r) ≤ n → length (type_tokens t ++ r) ≤ suc limit → Passes type_fits t → EndsType r → chain set inner n (type_tokens t ++ r) ≡ Ok (t, r)

  plain_chain : (n : ℕ) (tag : Option Tag) (b : AsnBase) (cs : List Constraint) → is_list b ≡ false → Chained (suc n) (roll-AsnType (record { tag = tag; base = b; constraints = cs }))
  unfolding typed plain_fits
  plain_chain n tag b cs l r turns bound fits ends =
      let f = and_parts ((option_fits tag_fits tag && base_fits b) && list_all outer_fits cs) _ (sym (form.fits_type tag b cs) ∙ fits) in
      let g = and_parts (option_fits tag_fits tag && base_fits b) (list_all outer_fits cs) f.0 in
      let k = and_parts (option_fits tag_fits tag) (base_fits b) g.0 in
      let regroup : type_tokens (roll-AsnType (record { tag = tag; base = b; constraints = cs })) ++ r ≡ option_tokens tag_tokens tag ++ (base_tokens b ++ tail_tokens cs r) = rw (form.tokens_type tag b cs) (simp append_assoc refl) in
      let whole : length (option_tokens tag_tokens tag ++ (base_tokens b ++ tail_tokens cs r)) ≤ suc limit = subst (λ z. length z ≤ suc limit) regroup bound in
      let within : length (base_tokens b ++ tail_tokens cs r) ≤ suc limit = omega (arith, length-append (option_tokens tag_tokens tag) (base_tokens b ++ tail_tokens cs r)) in
      rw regroup
      (then_again _ _ _ _ _ (base_step b tag cs r within k.0 (both_true k.1 (ap not l)) g.1 ends) refl)

  no_constraints : (tag : Option Tag) (c : Option Constraint) (u : AsnType) (x : Constraint) (xs : List Constraint) → type_fits (roll-AsnType (record { tag = tag; base = base.SequenceOf c u; constraints = x ∷ xs })) ≡ true → ⊥
  no_constraints tag c u x xs fits =
      let f = and_parts ((option_fits tag_fits tag && base_fits (base.SequenceOf c u)) && list_all outer_fits (x ∷ xs)) (cond (is_list (base.SequenceOf c u)) false true) (sym (form.fits_type tag (base.SequenceOf c u) (x ∷ xs)) ∙ fits) in
      let z : cond (is_list (base.SequenceOf c u)) false true ≡ false = ap (λ b. cond b false true) (list_is c u) in
      let w : false ≡ true = sym z ∙ f.1 in
      absurd cc

  list_chain : (n : ℕ) → ((u : AsnType) → Chained n u) → (tag : Option Tag) (c : Option Constraint) (u : AsnType) (cs : List Constraint) → Chained (suc n) (roll-AsnType (record { tag = tag; base = base.SequenceOf c u; constraints = cs }))
  unfolding list_type typed
  list_chain n more tag c u (x ∷ xs) r turns bound fits ends = absurd (no_constraints tag c u x xs fits)
  list_chain n more tag c u [] r turns bound fits ends =
      let k : ListHead = record { tag = tag; constraint = c } in
      let regroup : type_tokens (roll-AsnType (record { tag = tag; base = base.SequenceOf c u; constraints = [] })) ++ r ≡ head_tokens k ++ (type_tokens u ++ r) = ap (λ z. z ++ r) (list_by tag c u) ∙ append_assoc (head_tokens k) (type_tokens u) r in
      let f = and_parts (option_fits tag_fits tag && (option_fits inner_fits c && type_fits u) && true) true (sym (list_fits_by tag c u) ∙ fits) in
      let g = and_parts (option_fits tag_fits tag && (option_fits inner_fits c && type_fits u)) true f.0 in
      let i = and_parts (option_fits tag_fits tag) (option_fits inner_fits c && type_fits u) g.0 in
      let j = and_parts (option_fits inner_fits c) (type_fits u) i.1 in
      let whole : length (head_tokens k ++ (type_tokens u ++ r)) ≤ suc limit = subst (λ z. length z ≤ suc limit) regroup bound in
      let few : length (head_tokens k ++ (type_tokens u ++ r)) ≤ suc n = subst (λ z. length z ≤ suc n) regroup turns in
      let taken : 0 < length (head_tokens k) = omega (arith, length-append (option_tokens tag_tokens tag) (word (codes "SEQUENCE") ∷ (option_tokens constraint_tokens c ++ word (codes "OF") ∷ []))) in
      let sum = length-append (head_tokens k) (type_tokens u ++ r) in
      rw regroup
      (then_again _ _ _ _ _ (head_step tag c (type_tokens u ++ r) whole i.0 j.0)
      (then_again _ _ _ _ _ (more u r (omega (arith, sum)) (omega (arith, sum)) j.1 ends) refl))

  base_chain : (n : ℕ) → ((u : AsnType) → Chained n u) → (tag : Option Tag) (b : AsnBase) (cs : List Constraint) → Chained (suc n) (roll-AsnType (record { tag = tag; base = b; constraints = cs }))
  base_chain n more tag b cs = form.by_base (λ b. Chained (suc n) (roll-AsnType (record { tag = tag; base = b; constraints = cs }))) (record {
    boolean = plain_chain n tag base.Boolean cs form.list_Boolean;
    null = plain_chain n tag base.Null cs form.list_Null;
    integer = λ ns. plain_chain n tag (base.Integer ns) cs (form.list_Integer ns);
    enumerated = λ items. plain_chain n tag (base.Enumerated items) cs (form.list_Enumerated items);
    octet_string = plain_chain n tag base.OctetString cs form.list_OctetString;
    bit_string = plain_chain n tag base.BitString cs form.list_BitString;
    ia5_string = plain_chain n tag base.Ia5String cs form.list_Ia5String;
    sequence = λ components. plain_chain n tag (base.Sequence components) cs (form.list_Sequence components);
    sequence_of = λ t. list_chain n more tag None t cs;
    sequence_size = λ c t. list_chain n more tag (Some c) t cs;
    choice = λ alternatives. plain_chain n tag (base.Choice alternatives) cs (form.list_Choice alternatives);
    reference = λ from name. plain_chain n tag (base.Ref from name) cs (form.list_Ref from name);
  }) b

  chain_again : (n : ℕ) (t : AsnType) → Chained n t
  chain_again zero t = λ r turns bound fits ends. absurd (omega (arith, type_some t, length-append (type_tokens t) r))
  chain_again (suc n) t = form.by_type (Chained (suc n)) (base_chain n (chain_again n)) t

  type_in_again : (t : AsnType) (r : List Lexeme) → length (type_tokens t ++ r) ≤ suc limit → Passes type_fits t → EndsType r → type_in set inner (type_tokens t ++ r) ≡ Ok (t, r)
  unfolding type_in
  type_in_again t r bound fits ends = chain_again (length (type_tokens t ++ r)) t r (omega arith) bound fits ends

-- Each proper type is read from its tokens, where as many braces and parentheses may be in one another as there are tokens.
pub type_again : (n : ℕ) (t : AsnType) (r : List Lexeme) → length (type_tokens t ++ r) ≤ n → Passes type_fits t → EndsType r → type_at n (type_tokens t ++ r) ≡ Ok (t, r)
type_again zero t r bound fits ends = absurd (omega (arith, type_some t, length-append (type_tokens t) r))
type_again (suc n) t r bound fits ends = type_in_again n (set_at n) (set_again n) (type_at n) (type_again n) t r bound fits ends
