-- Tags, named numbers, items, and what stands behind a component: what their parsers take, and that they read it again.
use Rattle.std.proofs.Common.{◌≡◌, ℕ, ◌^◌, Bool, true, false, List, [], ◌∷◌, ◌++◌, Option, Some, None, refl, ap, ◌∙◌, append_assoc}
use Rattle.std.specs.Prelude.{codes, Ok}
use Rattle.std.specs.Cmp.Derive.{both_true}
use Rattle.std.proofs.lemmas.Bool.{lt-ltb, ltb-true, and_parts}
use Rattle.acn_lex.specs.declared.Kind.TheVariants.{Word, Number, Mark}
use Rattle.acn_lex.specs.Lexeme.{Lexeme, same_kind}
use Rattle.acn_cursor.specs.Steps.{Parser, given, and_then, ◌>>=◌, ◌>>◌, pure, token, sees, eat, expect, number}
use Rattle.acn_cursor.specs.Steps as steps
use Rattle.acn_lex.specs.Words.{is_identifier}
use Rattle.acn_cursor.proofs.Laws.{Takes, done, then_found, then_again, given_found, eat_again, eat_nothing, expect_found, expect_again, word_found, word_again, number_found, number_again, sees_kind, sees_text}
use Rattle.acn_asn_syntax.specs.declared.types.TagClass.{TagClass}
use Rattle.acn_asn_syntax.specs.declared.types.TagClass.TheVariants as class
use Rattle.acn_asn_syntax.specs.declared.types.TagMode.{TagMode}
use Rattle.acn_asn_syntax.specs.declared.types.TagMode.TheVariants as mode
use Rattle.acn_asn_syntax.specs.declared.types.Tag.{Tag}
use Rattle.acn_asn_syntax.specs.declared.types.Named.{Named}
use Rattle.acn_asn_syntax.specs.declared.types.Item.{Item}
use Rattle.acn_asn_syntax.specs.declared.types.Rest.{Rest}
use Rattle.acn_asn_syntax.specs.declared.types.Rest.TheVariants as rest
use Rattle.acn_asn_syntax.specs.Values.{word, mark, number_fits, signed_tokens, option_tokens, option_fits}
use Rattle.acn_asn_syntax.specs.Spelling.{class_tokens, mode_tokens, tag_tokens, tag_fits, grouped_tokens, named_tokens, named_fits, item_tokens, item_fits, rest_tokens, rest_fits}
use Rattle.acn_asn_types.specs.Values.{signed, value_at}
use Rattle.acn_asn_types.specs.Bases.{private_if, application_if, universal_if, class_at, explicit_if, implicit_if, mode_at, tag_in, tag_if, tag_at, grouped, named, number_if, item_number, item, default_if, optional_if, rest_at}
use Rattle.acn_asn_types.proofs.ValueLaws.{Passes, Found, signed_found, signed_again, value_found, value_again}

-- every item fits
abbrev Any : {A : Type 0} → A → Bool
Any x = true

-- ---- tags

private_found : (b : Bool) (ts m : List Lexeme) (o : Option TagClass) (r : List Lexeme) → ts ≡ given b (word (codes "PRIVATE")) ++ m → private_if b m ≡ Ok (o, r) → Takes (option_tokens class_tokens) (Passes Any) ts o r
private_found true ts m o r p e = done (Some class.Private) m _ _ e p refl
private_found false ts m o r p e = done None m _ _ e p refl

application_found : (b : Bool) (ts m : List Lexeme) (o : Option TagClass) (r : List Lexeme) → ts ≡ given b (word (codes "APPLICATION")) ++ m → application_if b m ≡ Ok (o, r) → Takes (option_tokens class_tokens) (Passes Any) ts o r
application_found true ts m o r p e = done (Some class.Application) m _ _ e p refl
application_found false ts m o r p e = then_found (eat Word (codes "PRIVATE") m) _ _ e (λ b m' e1 h. rw p (private_found b m m' o r (given_found _ _ _ _ _ e1) h))

universal_found : (b : Bool) (ts m : List Lexeme) (o : Option TagClass) (r : List Lexeme) → ts ≡ given b (word (codes "UNIVERSAL")) ++ m → universal_if b m ≡ Ok (o, r) → Takes (option_tokens class_tokens) (Passes Any) ts o r
universal_found true ts m o r p e = done (Some class.Universal) m _ _ e p refl
universal_found false ts m o r p e = then_found (eat Word (codes "APPLICATION") m) _ _ e (λ b m' e1 h. rw p (application_found b m m' o r (given_found _ _ _ _ _ e1) h))

class_found : Found class_at (option_tokens class_tokens) Any
unfolding class_at
class_found ts o r e = then_found (eat Word (codes "UNIVERSAL") ts) _ _ e (λ b m e1 h. universal_found b ts m o r (given_found _ _ _ _ _ e1) h)

-- before the number
class_again : (o : Option TagClass) (text : List ℕ) (r : List Lexeme) → class_at (option_tokens class_tokens o ++ token Number text ∷ r) ≡ Ok (o, token Number text ∷ r)
unfolding class_at same_kind
class_again (Some class.Universal) text r = then_again _ _ _ _ _ (eat_again _ _ _) refl
class_again (Some class.Application) text r =
    then_again _ _ _ _ _ (eat_nothing _ _ _ (sees_text _ _ _ _ refl))
    (then_again _ _ _ _ _ (eat_again _ _ _) refl)
class_again (Some class.Private) text r =
    then_again _ _ _ _ _ (eat_nothing _ _ _ (sees_text _ _ _ _ refl))
    (then_again _ _ _ _ _ (eat_nothing _ _ _ (sees_text _ _ _ _ refl))
    (then_again _ _ _ _ _ (eat_again _ _ _) refl))
class_again None text r =
    then_again _ _ _ _ _ (eat_nothing _ _ _ (sees_kind _ _ _ _ _ refl))
    (then_again _ _ _ _ _ (eat_nothing _ _ _ (sees_kind _ _ _ _ _ refl))
    (then_again _ _ _ _ _ (eat_nothing _ _ _ (sees_kind _ _ _ _ _ refl)) refl))

explicit_found : (b : Bool) (ts m : List Lexeme) (o : Option TagMode) (r : List Lexeme) → ts ≡ given b (word (codes "EXPLICIT")) ++ m → explicit_if b m ≡ Ok (o, r) → Takes (option_tokens mode_tokens) (Passes Any) ts o r
explicit_found true ts m o r p e = done (Some mode.Explicit) m _ _ e p refl
explicit_found false ts m o r p e = done None m _ _ e p refl

implicit_found : (b : Bool) (ts m : List Lexeme) (o : Option TagMode) (r : List Lexeme) → ts ≡ given b (word (codes "IMPLICIT")) ++ m → implicit_if b m ≡ Ok (o, r) → Takes (option_tokens mode_tokens) (Passes Any) ts o r
implicit_found true ts m o r p e = done (Some mode.Implicit) m _ _ e p refl
implicit_found false ts m o r p e = then_found (eat Word (codes "EXPLICIT") m) _ _ e (λ b m' e1 h. rw p (explicit_found b m m' o r (given_found _ _ _ _ _ e1) h))

mode_found : Found mode_at (option_tokens mode_tokens) Any
unfolding mode_at
mode_found ts o r e = then_found (eat Word (codes "IMPLICIT") ts) _ _ e (λ b m e1 h. implicit_found b ts m o r (given_found _ _ _ _ _ e1) h)

-- a type without its tag begins so
pub record BeginsBase (r : List Lexeme) : Type 0 where
  pub implicit : sees Word (codes "IMPLICIT") r ≡ false
  pub explicit : sees Word (codes "EXPLICIT") r ≡ false
  pub bracket : sees Mark (codes "[") r ≡ false

mode_again : (o : Option TagMode) (r : List Lexeme) → BeginsBase r → mode_at (option_tokens mode_tokens o ++ r) ≡ Ok (o, r)
unfolding mode_at
mode_again (Some mode.Implicit) r begins = then_again _ _ _ _ _ (eat_again _ _ _) refl
mode_again (Some mode.Explicit) r begins =
    then_again _ _ _ _ _ (eat_nothing _ _ _ (sees_text _ _ _ _ refl))
    (then_again _ _ _ _ _ (eat_again _ _ _) refl)
mode_again None r begins =
    then_again _ _ _ _ _ (eat_nothing _ _ _ begins.implicit)
    (then_again _ _ _ _ _ (eat_nothing _ _ _ begins.explicit) refl)

tag_if_found : (b : Bool) (ts m : List Lexeme) (o : Option Tag) (r : List Lexeme) → ts ≡ given b (mark (codes "[")) ++ m → tag_if b m ≡ Ok (o, r) → Takes (option_tokens tag_tokens) (Passes (option_fits tag_fits)) ts o r
unfolding tag_in tag_tokens
tag_if_found false ts m o r p e = done None m _ _ e p refl
tag_if_found true ts m o r p e =
    then_found (tag_in m) _ _ e (λ tag m' e0 h0.
    then_found (class_at m) _ _ e0 (λ class m1 e1 h.
    then_found (number m1) _ _ h (λ n m2 e2 h.
    then_found (expect Mark (codes "]") m2) _ _ h (λ _ m3 e3 h.
    then_found (mode_at m3) _ _ h (λ mode m4 e4 h.
    let a = class_found _ _ _ e1 in
    let b = number_found _ _ _ e2 in
    let c = expect_found _ _ _ _ _ e3 in
    let d = mode_found _ _ _ e4 in
    let made : Tag = record { class = class; number = n; mode = mode } in
    let inside : ts ≡ tag_tokens made ++ m4 = simp append_assoc (cc (p, a.parts, b.0, c, d.parts)) in
    let t = done {tokens = tag_tokens} {Fits = Passes tag_fits} made m4 tag m' h inside (lt-ltb n (2 ^ 64) b.1) in
    done (Some tag) m' _ _ h0 t.parts t.fits)))))

pub tag_found : Found tag_at (option_tokens tag_tokens) (option_fits tag_fits)
unfolding tag_at
tag_found ts o r e = then_found (eat Mark (codes "[") ts) _ _ e (λ b m e1 h. tag_if_found b ts m o r (given_found _ _ _ _ _ e1) h)

pub tag_again : (o : Option Tag) (r : List Lexeme) → option_fits tag_fits o ≡ true → BeginsBase r → tag_at (option_tokens tag_tokens o ++ r) ≡ Ok (o, r)
unfolding tag_at tag_in tag_tokens
tag_again None r fits begins = then_again _ _ _ _ _ (eat_nothing _ _ _ begins.bracket) refl
tag_again (Some t) r fits begins =
    simp append_assoc
    (then_again _ _ _ _ _ (eat_again _ _ _)
    (then_again _ _ _ _ _
    (then_again _ _ _ _ _ (class_again t.class _ _)
    (then_again _ _ _ _ _ (number_again t.number _ (ltb-true t.number (2 ^ 64) fits))
    (then_again _ _ _ _ _ (expect_again _ _ _)
    (then_again _ _ _ _ _ (mode_again t.mode r begins) refl)))) refl))

-- ---- named numbers and items

abbrev behind_open : Bool × ℕ → List Lexeme
behind_open n = signed_tokens n.0 n.1 ++ mark (codes ")") ∷ []

grouped_found : Found grouped behind_open (λ n. number_fits n.1)
unfolding grouped
grouped_found ts n r e =
    then_found (signed ts) _ _ e (λ n' m1 e1 h.
    then_found (expect Mark (codes ")") m1) _ _ h (λ _ m2 e2 h.
    let a = signed_found _ _ _ e1 in
    let b = expect_found _ _ _ _ _ e2 in
    let parts : ts ≡ behind_open n' ++ m2 = simp append_assoc (cc (a.parts, b)) in
    done n' m2 _ _ h parts a.fits))

grouped_again : (b : Bool) (n : ℕ) (r : List Lexeme) → number_fits n ≡ true → grouped (behind_open (b, n) ++ r) ≡ Ok ((b, n), r)
unfolding grouped
grouped_again b n r fits =
    simp append_assoc
    (then_again _ _ _ _ _ (signed_again b n _ fits)
    (then_again _ _ _ _ _ (expect_again _ _ _) refl))

pub named_found : Found named named_tokens named_fits
unfolding named named_tokens
named_found ts x r e =
    then_found (steps.word is_identifier ts) _ _ e (λ name m1 e1 h.
    then_found (expect Mark (codes "(") m1) _ _ h (λ _ m2 e2 h.
    then_found (grouped m2) _ _ h (λ n m3 e3 h.
    let a = word_found _ _ _ _ e1 in
    let b = expect_found _ _ _ _ _ e2 in
    let c = grouped_found _ _ _ e3 in
    let made : Named = record { name = name; negative = n.0; number = n.1 } in
    let parts : ts ≡ named_tokens made ++ m3 = cc (a.0, b, c.parts) in
    done made m3 _ _ h parts (both_true a.1 c.fits))))

pub named_again : (x : Named) (r : List Lexeme) → named_fits x ≡ true → named (named_tokens x ++ r) ≡ Ok (x, r)
unfolding named named_tokens
named_again x r fits =
    let f = and_parts (is_identifier x.name) (number_fits x.number) fits in
    then_again _ _ _ _ _ (word_again _ x.name _ f.0)
    (then_again _ _ _ _ _ (expect_again _ _ _)
    (then_again _ _ _ _ _ (grouped_again x.negative x.number r f.1) refl))

number_if_found : (b : Bool) (ts m : List Lexeme) (o : Option (Bool × ℕ)) (r : List Lexeme) → ts ≡ given b (mark (codes "(")) ++ m → number_if b m ≡ Ok (o, r) → Takes (option_tokens grouped_tokens) (Passes (option_fits (λ n. number_fits n.1))) ts o r
number_if_found true ts m o r p e =
    then_found (grouped m) _ _ e (λ n m' e1 h.
    let a = grouped_found _ _ _ e1 in
    let parts : ts ≡ option_tokens grouped_tokens (Some n) ++ m' = p ∙ ap (λ z. mark (codes "(") ∷ z) a.parts in
    done (Some n) m' _ _ h parts a.fits)
number_if_found false ts m o r p e = done None m _ _ e p refl

item_number_found : Found item_number (option_tokens grouped_tokens) (option_fits (λ n. number_fits n.1))
unfolding item_number
item_number_found ts o r e = then_found (eat Mark (codes "(") ts) _ _ e (λ b m e1 h. number_if_found b ts m o r (given_found _ _ _ _ _ e1) h)

pub item_found : Found item item_tokens item_fits
unfolding item item_tokens
item_found ts x r e =
    then_found (steps.word is_identifier ts) _ _ e (λ name m1 e1 h.
    then_found (item_number m1) _ _ h (λ n m2 e2 h.
    let a = word_found _ _ _ _ e1 in
    let b = item_number_found _ _ _ e2 in
    let made : Item = record { name = name; number = n } in
    let parts : ts ≡ item_tokens made ++ m2 = cc (a.0, b.parts) in
    done made m2 _ _ h parts (both_true a.1 b.fits)))

item_number_again : (o : Option (Bool × ℕ)) (r : List Lexeme) → option_fits (λ n. number_fits n.1) o ≡ true → sees Mark (codes "(") r ≡ false → item_number (option_tokens grouped_tokens o ++ r) ≡ Ok (o, r)
unfolding item_number
item_number_again None r fits ends = then_again _ _ _ _ _ (eat_nothing _ _ _ ends) refl
item_number_again (Some n) r fits ends =
    then_again _ _ _ _ _ (eat_again _ _ _)
    (then_again _ _ _ _ _ (grouped_again n.0 n.1 r fits) refl)

pub item_again : (x : Item) (r : List Lexeme) → item_fits x ≡ true → sees Mark (codes "(") r ≡ false → item (item_tokens x ++ r) ≡ Ok (x, r)
unfolding item item_tokens
item_again x r fits ends =
    let f = and_parts (is_identifier x.name) (option_fits (λ (n : Bool × ℕ). number_fits n.1) x.number) fits in
    then_again _ _ _ _ _ (word_again _ x.name _ f.0)
    (then_again _ _ _ _ _ (item_number_again x.number r f.1 ends) refl)

-- ---- what stands behind a component

default_found : (b : Bool) (ts m : List Lexeme) (x : Rest) (r : List Lexeme) → ts ≡ given b (word (codes "DEFAULT")) ++ m → default_if b m ≡ Ok (x, r) → Takes rest_tokens (Passes rest_fits) ts x r
unfolding rest_tokens
default_found true ts m x r p e =
    then_found (value_at m) _ _ e (λ v m' e1 h.
    let a = value_found _ _ _ e1 in
    let parts : ts ≡ rest_tokens (rest.Default v) ++ m' = p ∙ ap (λ z. word (codes "DEFAULT") ∷ z) a.parts in
    done (rest.Default v) m' _ _ h parts a.fits)
default_found false ts m x r p e = done rest.Required m _ _ e p refl

optional_found : (b : Bool) (ts m : List Lexeme) (x : Rest) (r : List Lexeme) → ts ≡ given b (word (codes "OPTIONAL")) ++ m → optional_if b m ≡ Ok (x, r) → Takes rest_tokens (Passes rest_fits) ts x r
unfolding rest_tokens
optional_found true ts m x r p e = done rest.Optional m _ _ e p refl
optional_found false ts m x r p e = then_found (eat Word (codes "DEFAULT") m) _ _ e (λ b m' e1 h. rw p (default_found b m m' x r (given_found _ _ _ _ _ e1) h))

pub rest_found : Found rest_at rest_tokens rest_fits
unfolding rest_at
rest_found ts x r e = then_found (eat Word (codes "OPTIONAL") ts) _ _ e (λ b m e1 h. optional_found b ts m x r (given_found _ _ _ _ _ e1) h)

-- behind a component
pub record EndsRest (r : List Lexeme) : Type 0 where
  pub optional : sees Word (codes "OPTIONAL") r ≡ false
  pub default : sees Word (codes "DEFAULT") r ≡ false

pub rest_again : (x : Rest) (r : List Lexeme) → rest_fits x ≡ true → EndsRest r → rest_at (rest_tokens x ++ r) ≡ Ok (x, r)
unfolding rest_at rest_tokens
rest_again rest.Required r fits ends =
    then_again _ _ _ _ _ (eat_nothing _ _ _ ends.optional)
    (then_again _ _ _ _ _ (eat_nothing _ _ _ ends.default) refl)
rest_again rest.Optional r fits ends = then_again _ _ _ _ _ (eat_again _ _ _) refl
rest_again (rest.Default v) r fits ends =
    then_again _ _ _ _ _ (eat_nothing _ _ _ (sees_text _ _ _ _ refl))
    (then_again _ _ _ _ _ (eat_again _ _ _)
    (then_again _ _ _ _ _ (value_again v r fits) refl))
