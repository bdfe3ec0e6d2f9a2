-- What the parser of types takes: the tokens of a proper tree.
use Rattle.std.proofs.Common.{◌≡◌, ℕ, zero, suc, Bool, true, false, not, ◌&&◌, cond, List, [], ◌∷◌, ◌++◌, length, Option, Some, None, refl, sym, ap, subst, ◌∙◌, append_assoc}
use Rattle.std.specs.Prelude.{codes, Ok}
use Rattle.std.specs.List.{flat_map, list_all}
use Rattle.std.specs.Cmp.Derive.{both_true}
use Rattle.std.proofs.lemmas.List.{append-nil}
use Rattle.acn_lex.specs.declared.Kind.TheVariants.{Word, Mark}
use Rattle.acn_lex.specs.Lexeme.{Lexeme}
use Rattle.acn_cursor.specs.Steps.{Parser, given, and_then, ◌>>=◌, ◌>>◌, pure, sees, eat, expect, many}
use Rattle.acn_cursor.specs.Steps as steps
use Rattle.acn_lex.specs.Words.{is_identifier}
use Rattle.acn_cursor.proofs.Laws.{Takes, done, then_found, given_found, expect_found, word_found, repeat_found}
use Rattle.acn_asn_syntax.specs.declared.types.Tag.{Tag}
use Rattle.acn_asn_syntax.specs.declared.types.AsnBase.{AsnBase}
use Rattle.acn_asn_syntax.specs.declared.types.AsnBase.TheVariants as base
use Rattle.acn_asn_syntax.specs.declared.types.AsnType.{AsnType, roll-AsnType}
use Rattle.acn_asn_syntax.specs.declared.types.Constraint.{Constraint}
use Rattle.acn_asn_syntax.specs.declared.types.Constraint.TheVariants as constraint
use Rattle.acn_asn_syntax.specs.declared.types.Component.{Component}
use Rattle.acn_asn_syntax.specs.declared.types.Alternative.{Alternative}
use Rattle.acn_asn_syntax.specs.declared.sets.Set.{Set}
use Rattle.acn_asn_syntax.specs.Values.{word, mark, in_parentheses, in_braces, with_commas, option_tokens, option_fits}
use Rattle.acn_asn_syntax.specs.Spelling.{tag_tokens, tag_fits, rest_tokens, is_some}
use Rattle.acn_asn_syntax.specs.Trees.{set_tokens, set_fits, type_tokens, base_tokens, constraint_tokens, component_tokens, alternative_tokens, type_fits, base_fits, outer_fits, inner_fits, component_fits, alternative_fits, is_list}
use Rattle.acn_asn_syntax.proofs.TypeTokens as form
use Rattle.acn_asn_syntax.proofs.TypeTokens.{is_none}
use Rattle.acn_asn_types.specs.declared.heads.ListHead.{ListHead}
use Rattle.acn_asn_types.specs.declared.heads.Step.{Step}
use Rattle.acn_asn_types.specs.declared.heads.Step.TheVariants as step
use Rattle.acn_asn_types.specs.Lists.{listed}
use Rattle.acn_asn_types.specs.Bases.{tag_at, rest_at}
use Rattle.acn_asn_types.specs.Sets.{set_at}
use Rattle.acn_asn_types.specs.Types.{has_paren, typed, component_of, alternative_of, list_type, containing_at, set_constraint, content_if, constraint_at, size_at, some_constraint, size_if, of_constraint, list_at, finish, component, none_if, components_at, alternative, choice_at, choice_if, base_at, brace_if, sequence_at, other_at, sequence_if, step_at, chain_if, chain, type_in, type_at}
use Rattle.acn_asn_types.proofs.ValueLaws.{Passes, Found}
use Rattle.acn_asn_types.proofs.SetsFound.{set_found}
use Rattle.acn_asn_types.proofs.ListLaws.{all_pass, some_fit, listed_found}
use Rattle.acn_asn_types.proofs.BaseLaws.{tag_found, rest_found}
use Rattle.acn_asn_types.proofs.SimpleLaws.{plain_fits, plain_by, TakesBase, simple_found}
use Rattle.std.proofs.lemmas.Bool.{and_parts}

-- what may stand behind a type may stand before OF
inner_by : (c : Constraint) → outer_fits c ≡ true → inner_fits c ≡ true
inner_by c = form.by_constraint (λ c. outer_fits c ≡ true → inner_fits c ≡ true)
    (λ s f. (form.fits_Set s).1 ∙ (sym (form.fits_Set s).0 ∙ f))
    (λ s f. let z : false ≡ true = sym (form.fits_Size s).0 ∙ f in absurd cc)
    (λ t f. (form.fits_Containing t).1 ∙ (sym (form.fits_Containing t).0 ∙ f))
    c

-- ---- what a step takes

abbrev pub head_tokens : ListHead → List Lexeme
head_tokens h = option_tokens tag_tokens h.tag ++ word (codes "SEQUENCE") ∷ (option_tokens constraint_tokens h.constraint ++ word (codes "OF") ∷ [])

abbrev pub head_fits : ListHead → Bool
head_fits h = option_fits tag_fits h.tag && option_fits inner_fits h.constraint

abbrev pub step_tokens : Step → List Lexeme
step_tokens (step.Head h) = head_tokens h
step_tokens (step.Inner t) = type_tokens t

abbrev pub step_fits : Step → Bool
step_fits (step.Head h) = head_fits h
step_fits (step.Inner t) = type_fits t

abbrev TakesStep : List Lexeme → Step → List Lexeme → Type 0
TakesStep = Takes step_tokens (Passes step_fits)

pub list_by : (tag : Option Tag) (c : Option Constraint) (t : AsnType) → type_tokens (roll-AsnType (record { tag = tag; base = base.SequenceOf c t; constraints = [] })) ≡ head_tokens (record { tag = tag; constraint = c }) ++ type_tokens t
list_by tag None t = rw (form.tokens_type tag (base.SequenceOf None t) [], form.tokens_Of t) (append-nil (option_tokens tag_tokens tag ++ word (codes "SEQUENCE") ∷ word (codes "OF") ∷ type_tokens t) ∙ simp append_assoc refl)
list_by tag (Some c) t = rw (form.tokens_type tag (base.SequenceOf (Some c) t) [], form.tokens_SizeOf c t) (append-nil (option_tokens tag_tokens tag ++ word (codes "SEQUENCE") ∷ (constraint_tokens c ++ word (codes "OF") ∷ type_tokens t)) ∙ simp append_assoc refl)

pub list_tokens : (h : ListHead) (t : AsnType) → type_tokens (list_type h t) ≡ head_tokens h ++ type_tokens t
unfolding list_type typed
list_tokens h t = list_by h.tag h.constraint t

base_list : (c : Option Constraint) (t : AsnType) → base_fits (base.SequenceOf c t) ≡ option_fits inner_fits c && type_fits t
base_list None t = form.fits_Of t
base_list (Some c) t = form.fits_SizeOf c t

pub list_is : (c : Option Constraint) (t : AsnType) → is_list (base.SequenceOf c t) ≡ true
list_is None t = form.list_Of t
list_is (Some c) t = form.list_SizeOf c t

pub list_fits_by : (tag : Option Tag) (c : Option Constraint) (t : AsnType) → type_fits (roll-AsnType (record { tag = tag; base = base.SequenceOf c t; constraints = [] })) ≡ (option_fits tag_fits tag && (option_fits inner_fits c && type_fits t) && true) && true
list_fits_by tag c t = rw (form.fits_type tag (base.SequenceOf c t) [], base_list c t, list_is c t) refl

pub list_fits : (h : ListHead) (t : AsnType) → type_fits (list_type h t) ≡ (option_fits tag_fits h.tag && (option_fits inner_fits h.constraint && type_fits t) && true) && true
unfolding list_type typed
list_fits h t = list_fits_by h.tag h.constraint t

-- ---- over parsers of what stands in parentheses and braces

module _ (sets : Parser Set) (set_found : Found sets set_tokens set_fits) (inner : Parser AsnType) (found : Found inner type_tokens type_fits) where
  content_found : (b : Bool) (ts ts' m : List Lexeme) (c : Constraint) (r : List Lexeme) → ts ≡ mark (codes "(") ∷ ts' → ts' ≡ given b (word (codes "CONTAINING")) ++ m → content_if sets inner b m ≡ Ok (c, r) → Takes constraint_tokens (Passes outer_fits) ts c r
  unfolding containing_at set_constraint
  content_found true ts ts' m c r p q e =
      then_found (inner m) _ _ e (λ t m1 e1 h.
      then_found (expect Mark (codes ")") m1) _ _ h (λ _ m2 e2 h.
      let a = found _ _ _ e1 in
      let b = expect_found _ _ _ _ _ e2 in
      let spelled : ts ≡ in_parentheses (word (codes "CONTAINING") ∷ type_tokens t) ++ m2 = simp append_assoc (cc (p, q, a.parts, b)) in
      let parts : ts ≡ constraint_tokens (constraint.Containing t) ++ m2 = rw (form.tokens_Containing t) spelled in
      done (constraint.Containing t) m2 _ _ h parts ((form.fits_Containing t).0 ∙ a.fits)))
  content_found false ts ts' m c r p q e =
      then_found (sets m) _ _ e (λ s m1 e1 h.
      then_found (expect Mark (codes ")") m1) _ _ h (λ _ m2 e2 h.
      let a = set_found _ _ _ e1 in
      let b = expect_found _ _ _ _ _ e2 in
      let spelled : ts ≡ in_parentheses (set_tokens s) ++ m2 = simp append_assoc (cc (p, q, a.parts, b)) in
      let parts : ts ≡ constraint_tokens (constraint.Set s) ++ m2 = rw (form.tokens_Set s) spelled in
      done (constraint.Set s) m2 _ _ h parts ((form.fits_Set s).0 ∙ a.fits)))

  constraint_found : Found (constraint_at sets inner) constraint_tokens outer_fits
  unfolding constraint_at
  constraint_found ts c r e =
      then_found (expect Mark (codes "(") ts) _ _ e (λ _ m1 e1 h.
      then_found (eat Word (codes "CONTAINING") m1) _ _ h (λ b m2 e2 h.
      content_found b ts m1 m2 c r (expect_found _ _ _ _ _ e1) (given_found _ _ _ _ _ e2) h))

  abbrev TakesOf : List Lexeme → Option Constraint → List Lexeme → Type 0
  TakesOf = Takes (option_tokens constraint_tokens) (Passes (option_fits inner_fits))

  size_found : (b : Bool) (ts m : List Lexeme) (o : Option Constraint) (r : List Lexeme) → ts ≡ given b (word (codes "SIZE")) ++ m → size_if sets inner b m ≡ Ok (o, r) → TakesOf ts o r
  unfolding size_at some_constraint
  size_found true ts m o r p e =
      then_found (expect Mark (codes "(") m) _ _ e (λ _ m1 e1 h.
      then_found (sets m1) _ _ h (λ s m2 e2 h.
      then_found (expect Mark (codes ")") m2) _ _ h (λ _ m3 e3 h.
      let a = expect_found _ _ _ _ _ e1 in
      let b = set_found _ _ _ e2 in
      let c = expect_found _ _ _ _ _ e3 in
      let spelled : ts ≡ (word (codes "SIZE") ∷ in_parentheses (set_tokens s)) ++ m3 = simp append_assoc (cc (p, a, b.parts, c)) in
      let parts : ts ≡ constraint_tokens (constraint.Size s) ++ m3 = rw (form.tokens_Size s) spelled in
      done (Some (constraint.Size s)) m3 _ _ h parts ((form.fits_Size s).1 ∙ b.fits))))
  size_found false ts m o r p e = rw p (by_mark (has_paren m) e)
    where
      by_mark : (b : Bool) → cond b (some_constraint sets inner m) (Ok (None, m)) ≡ Ok (o, r) → TakesOf m o r
      by_mark true e =
          then_found (constraint_at sets inner m) _ _ e (λ c m1 e1 h.
          let a = constraint_found _ _ _ e1 in
          done (Some c) m1 _ _ h a.parts (inner_by c a.fits))
      by_mark false e = done None m _ _ e refl refl

  of_found : (ts : List Lexeme) (o : Option Constraint) (r : List Lexeme) → of_constraint sets inner ts ≡ Ok (o, r) → TakesOf ts o r
  unfolding of_constraint
  of_found ts o r e = then_found (eat Word (codes "SIZE") ts) _ _ e (λ b m e1 h. size_found b ts m o r (given_found _ _ _ _ _ e1) h)

  list_found : (tag : Option Tag) (ts ts' m : List Lexeme) (x : Step) (r : List Lexeme) → option_fits tag_fits tag ≡ true → ts ≡ option_tokens tag_tokens tag ++ ts' → ts' ≡ word (codes "SEQUENCE") ∷ m → list_at sets inner tag m ≡ Ok (x, r) → TakesStep ts x r
  unfolding list_at
  list_found tag ts ts' m x r f p q e =
      then_found (of_constraint sets inner m) _ _ e (λ c m1 e1 h.
      then_found (expect Word (codes "OF") m1) _ _ h (λ _ m2 e2 h.
      let a = of_found _ _ _ e1 in
      let b = expect_found _ _ _ _ _ e2 in
      let parts : ts ≡ step_tokens (step.Head (record { tag = tag; constraint = c })) ++ m2 = simp append_assoc (cc (p, q, a.parts, b)) in
      done (step.Head (record { tag = tag; constraint = c })) m2 _ _ h parts (both_true f a.fits)))

  finish_found : (tag : Option Tag) (b : AsnBase) (ts ts' m : List Lexeme) (x : Step) (r : List Lexeme) → option_fits tag_fits tag ≡ true → ts ≡ option_tokens tag_tokens tag ++ ts' → TakesBase ts' b m → finish sets inner tag b m ≡ Ok (x, r) → TakesStep ts x r
  unfolding finish typed plain_fits
  finish_found tag b ts ts' m x r f p t e =
      then_found (many has_paren (constraint_at sets inner) m) _ _ e (λ cs m1 e1 h.
      let a = repeat_found has_paren (constraint_at sets inner) constraint_tokens (Passes outer_fits) constraint_found (length m) m _ _ e1 in
      let spelled : ts ≡ ((option_tokens tag_tokens tag ++ base_tokens b) ++ flat_map constraint_tokens cs) ++ m1 = simp append_assoc (cc (p, t.parts, a.parts)) in
      let parts : ts ≡ type_tokens (typed tag b cs) ++ m1 = rw (form.tokens_type tag b cs) spelled in
      let g = and_parts (base_fits b) (not (is_list b)) t.fits in
      let fits = form.fits_type tag b cs ∙ both_true (both_true (both_true f g.0) (all_pass outer_fits cs a.fits)) (no_list (is_list b) (is_none cs) g.1) in
      done (step.Inner (typed tag b cs)) m1 _ _ h parts fits)
    where
      no_list : (l n : Bool) → not l ≡ true → cond l n true ≡ true
      no_list false n h = refl
      no_list true n h = absurd cc

  component_found : Found (component sets inner) component_tokens component_fits
  unfolding component component_of
  component_found ts x r e =
      then_found (steps.word is_identifier ts) _ _ e (λ name m1 e1 h.
      then_found (inner m1) _ _ h (λ t m2 e2 h.
      then_found (rest_at m2) _ _ h (λ z m3 e3 h.
      let a = word_found _ _ _ _ e1 in
      let b = found _ _ _ e2 in
      let c = rest_found _ _ _ e3 in
      let spelled : ts ≡ (word name ∷ (type_tokens t ++ rest_tokens z)) ++ m3 = simp append_assoc (cc (a.0, b.parts, c.parts)) in
      let parts : ts ≡ component_tokens (component_of name t z) ++ m3 = rw (form.tokens_component name t z) spelled in
      done (component_of name t z) m3 _ _ h parts (form.fits_component name t z ∙ both_true (both_true a.1 b.fits) c.fits))))

  alternative_found : Found (alternative sets inner) alternative_tokens alternative_fits
  unfolding alternative alternative_of
  alternative_found ts x r e =
      then_found (steps.word is_identifier ts) _ _ e (λ name m1 e1 h.
      then_found (inner m1) _ _ h (λ t m2 e2 h.
      let a = word_found _ _ _ _ e1 in
      let b = found _ _ _ e2 in
      let spelled : ts ≡ (word name ∷ type_tokens t) ++ m2 = cc (a.0, b.parts) in
      let parts : ts ≡ alternative_tokens (alternative_of name t) ++ m2 = rw (form.tokens_alternative name t) spelled in
      done (alternative_of name t) m2 _ _ h parts (form.fits_alternative name t ∙ both_true a.1 b.fits)))

  abbrev behind_brace : List Component → List Lexeme
  behind_brace cs = with_commas component_tokens cs ++ mark (codes "}") ∷ []

  none_found : (b : Bool) (ts m : List Lexeme) (cs : List Component) (r : List Lexeme) → ts ≡ given b (mark (codes "}")) ++ m → none_if sets inner b m ≡ Ok (cs, r) → Takes behind_brace (Passes (list_all component_fits)) ts cs r
  none_found true ts m cs r p e = done [] m _ _ e p refl
  none_found false ts m cs r p e =
      then_found (listed (component sets inner) m) _ _ e (λ cs' m1 e1 h.
      then_found (expect Mark (codes "}") m1) _ _ h (λ _ m2 e2 h.
      let a = listed_found (component sets inner) component_tokens component_fits component_found _ _ _ e1 in
      let b = expect_found _ _ _ _ _ e2 in
      let parts : ts ≡ behind_brace cs' ++ m2 = simp append_assoc (cc (p, a.parts, b)) in
      done cs' m2 _ _ h parts (and_parts (is_some cs') (list_all component_fits cs') a.fits).1))

  brace_found : (tag : Option Tag) (b : Bool) (ts ts' ts2 m : List Lexeme) (x : Step) (r : List Lexeme) → option_fits tag_fits tag ≡ true → ts ≡ option_tokens tag_tokens tag ++ ts' → ts' ≡ word (codes "SEQUENCE") ∷ ts2 → ts2 ≡ given b (mark (codes "{")) ++ m → brace_if sets inner tag b m ≡ Ok (x, r) → TakesStep ts x r
  unfolding components_at
  brace_found tag true ts ts' ts2 m x r f p q s e =
      then_found (components_at sets inner m) _ _ e (λ cs m1 e1 h.
      then_found (eat Mark (codes "}") m) _ _ e1 (λ b m2 e2 h2.
      let a = none_found b m m2 cs m1 (given_found _ _ _ _ _ e2) h2 in
      let spelled : ts' ≡ (word (codes "SEQUENCE") ∷ in_braces (with_commas component_tokens cs)) ++ m1 = cc (q, s, a.parts) in
      let parts : ts' ≡ base_tokens (base.Sequence cs) ++ m1 = rw (form.tokens_Sequence cs) spelled in
      let t : TakesBase ts' (base.Sequence cs) m1 = record { parts = parts; fits = plain_by (base.Sequence cs) (form.fits_Sequence cs ∙ a.fits) (form.list_Sequence cs) } in
      finish_found tag (base.Sequence cs) ts ts' m1 x r f p t h))
  brace_found tag false ts ts' ts2 m x r f p q s e = list_found tag ts ts' ts2 x r f p q (subst (λ z. list_at sets inner tag z ≡ Ok (x, r)) (sym s) e)

  alternatives_fit : (more : List Alternative) → some_fit alternative_fits more ≡ true → base_fits (base.Choice more) ≡ true
  alternatives_fit [] h = absurd cc
  alternatives_fit (a ∷ more) h = form.fits_Choice a more ∙ h

  choice_found : (b : Bool) (ts m : List Lexeme) (x : AsnBase) (r : List Lexeme) → ts ≡ given b (word (codes "CHOICE")) ++ m → choice_if sets inner b m ≡ Ok (x, r) → TakesBase ts x r
  unfolding choice_at
  choice_found true ts m x r p e =
      then_found (expect Mark (codes "{") m) _ _ e (λ _ m1 e1 h.
      then_found (listed (alternative sets inner) m1) _ _ h (λ more m2 e2 h.
      then_found (expect Mark (codes "}") m2) _ _ h (λ _ m3 e3 h.
      let a = expect_found _ _ _ _ _ e1 in
      let b = listed_found (alternative sets inner) alternative_tokens alternative_fits alternative_found _ _ _ e2 in
      let c = expect_found _ _ _ _ _ e3 in
      let spelled : ts ≡ (word (codes "CHOICE") ∷ in_braces (with_commas alternative_tokens more)) ++ m3 = simp append_assoc (cc (p, a, b.parts, c)) in
      let parts : ts ≡ base_tokens (base.Choice more) ++ m3 = rw (form.tokens_Choice more) spelled in
      done (base.Choice more) m3 _ _ h parts (plain_by (base.Choice more) (alternatives_fit more b.fits) (form.list_Choice more)))))
  choice_found false ts m x r p e = rw p (simple_found m x r e)

  other_found : (tag : Option Tag) (ts ts' : List Lexeme) (x : Step) (r : List Lexeme) → option_fits tag_fits tag ≡ true → ts ≡ option_tokens tag_tokens tag ++ ts' → other_at sets inner tag ts' ≡ Ok (x, r) → TakesStep ts x r
  unfolding other_at base_at
  other_found tag ts ts' x r f p e =
      then_found (base_at sets inner ts') _ _ e (λ b m e1 h.
      then_found (eat Word (codes "CHOICE") ts') _ _ e1 (λ c m1 e2 h2.
      finish_found tag b ts ts' m x r f p (choice_found c ts' m1 b m (given_found _ _ _ _ _ e2) h2) h))

  sequence_found : (tag : Option Tag) (b : Bool) (ts ts' m : List Lexeme) (x : Step) (r : List Lexeme) → option_fits tag_fits tag ≡ true → ts ≡ option_tokens tag_tokens tag ++ ts' → ts' ≡ given b (word (codes "SEQUENCE")) ++ m → sequence_if sets inner tag b m ≡ Ok (x, r) → TakesStep ts x r
  unfolding sequence_at
  sequence_found tag true ts ts' m x r f p q e =
      then_found (eat Mark (codes "{") m) _ _ e (λ b m1 e1 h. brace_found tag b ts ts' m m1 x r f p q (given_found _ _ _ _ _ e1) h)
  sequence_found tag false ts ts' m x r f p q e = other_found tag ts ts' x r f p (subst (λ z. other_at sets inner tag z ≡ Ok (x, r)) (sym q) e)

  step_found : Found (step_at sets inner) step_tokens step_fits
  unfolding step_at
  step_found ts x r e =
      then_found (tag_at ts) _ _ e (λ tag m1 e1 h.
      then_found (eat Word (codes "SEQUENCE") m1) _ _ h (λ b m2 e2 h.
      let a = tag_found _ _ _ e1 in
      sequence_found tag b ts m1 m2 x r a.fits a.parts (given_found _ _ _ _ _ e2) h))

  chain_by : (n : ℕ) → Found (chain sets inner n) type_tokens type_fits → (ts : List Lexeme) (t : AsnType) (r : List Lexeme) (s : Step) (m : List Lexeme) → TakesStep ts s m → chain_if sets inner (chain sets inner n) s m ≡ Ok (t, r) → Takes type_tokens (Passes type_fits) ts t r
  chain_by n more ts t r (step.Inner u) m a h = done u m _ _ h a.parts a.fits
  chain_by n more ts t r (step.Head k) m a h =
      then_found (chain sets inner n m) _ _ h (λ u m1 e1 h.
      let b = more m u m1 e1 in
      let f = and_parts (option_fits tag_fits k.tag) (option_fits inner_fits k.constraint) a.fits in
      let spelled : ts ≡ (head_tokens k ++ type_tokens u) ++ m1 = a.parts ∙ (ap (λ z. head_tokens k ++ z) b.parts ∙ sym (append_assoc (head_tokens k) (type_tokens u) m1)) in
      let parts : ts ≡ type_tokens (list_type k u) ++ m1 = rw (list_tokens k u) spelled in
      done (list_type k u) m1 _ _ h parts (list_fits k u ∙ both_true (both_true (both_true f.0 (both_true f.1 b.fits)) refl) refl))

  chain_found : (n : ℕ) → Found (chain sets inner n) type_tokens type_fits
  chain_found zero ts t r e = absurd cc
  chain_found (suc n) ts t r e =
      then_found (step_at sets inner ts) _ _ e (λ s m e1 h. chain_by n (chain_found n) ts t r s m (step_found _ _ _ e1) h)

  type_in_found : Found (type_in sets inner) type_tokens type_fits
  unfolding type_in
  type_in_found ts t r e = chain_found (length ts) ts t r e

pub type_found : (n : ℕ) → Found (type_at n) type_tokens type_fits
type_found zero = λ ts x r e. absurd cc
type_found (suc n) = type_in_found (set_at n) (set_found n) (type_at n) (type_found n)
