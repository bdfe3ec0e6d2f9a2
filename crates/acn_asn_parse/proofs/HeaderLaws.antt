-- What stands before a module's assignments: what its parsers take, and that they read it again.
use Rattle.std.proofs.Common.{◌≡◌, ℕ, ◌+◌, ◌^◌, ◌<◌, ◌≤◌, Bool, true, false, not, ◌&&◌, ◌||◌, cond, List, [], ◌∷◌, ◌++◌, length, length-append, Option, Some, None, refl, sym, ap, subst, ◌∙◌, append_assoc, arith, rules}
use Rattle.std.specs.Prelude.{codes, Ok}
use Rattle.std.specs.List.{flat_map, list_all}
use Rattle.std.specs.Cmp.Derive.{both_true}
use Rattle.std.specs.Fmt.{decimal}
use Rattle.std.specs.Str.{bytes_eq}
use Rattle.std.proofs.lemmas.Bool.{lt-ltb, ltb-true, and_parts}
use Rattle.std.proofs.lemmas.Slice.Eq.{bytes_eq-Decides}
use Rattle.acn_lex.specs.declared.Kind.TheVariants.{Word, Number, Mark}
use Rattle.acn_lex.specs.Lexeme.{Lexeme, same_kind}
use Rattle.acn_cursor.specs.Steps.{Parser, given, and_then, ◌>>=◌, ◌>>◌, pure, token, sees, text_of, eat, expect, number, many}
use Rattle.acn_cursor.specs.Steps as steps
use Rattle.acn_lex.specs.Words.{is_identifier, is_reference, is_reserved, is_upper, reserved}
use Rattle.acn_cursor.proofs.Laws.{Takes, done, then_found, then_again, given_found, eat_again, eat_nothing, expect_found, expect_again, word_found, word_again, number_found, number_again, text_of_again, sees_kind, sees_text, sees_again, repeat_found, many_again, outcome}
use Rattle.acn_asn_syntax.specs.declared.modules.OidPart.{OidPart}
use Rattle.acn_asn_syntax.specs.declared.modules.OidPart.TheVariants as part
use Rattle.acn_asn_syntax.specs.declared.modules.Oid.{Oid}
use Rattle.acn_asn_syntax.specs.declared.modules.Tagging.{Tagging}
use Rattle.acn_asn_syntax.specs.declared.modules.Tagging.TheVariants as tagging
use Rattle.acn_asn_syntax.specs.declared.modules.Exports.{Exports}
use Rattle.acn_asn_syntax.specs.declared.modules.Exports.TheVariants as exports
use Rattle.acn_asn_syntax.specs.declared.modules.Import.{Import}
use Rattle.acn_asn_syntax.specs.Values.{word, mark, number_fits, with_commas, option_tokens, option_fits}
use Rattle.acn_asn_syntax.specs.Spelling.{is_some}
use Rattle.acn_asn_syntax.specs.Modules.{part_tokens, part_fits, oid_tokens, oid_fits, tagging_tokens, names_tokens, is_name, exports_tokens, exports_fit, import_tokens, import_fits, imports_tokens}
use Rattle.acn_asn_parse.specs.declared.headers.ModuleHead.{ModuleHead}
use Rattle.acn_asn_types.specs.Values.{has, literal}
use Rattle.acn_asn_types.specs.Lists.{has_comma, listed}
use Rattle.acn_asn_parse.specs.Headers.{grouped_part, word_part, number_part, group_if, oid_part, has_part, oid_in, oid_if, oid_at, with_tags, automatic_if, implicit_if, explicit_if, tagging_at, head_at, is_end, names_at, all_exports, some_exports, all_if, exports_if, exports_at, import_at, has_import, imports_in, imports_if, imports_at}
use Rattle.acn_asn_types.proofs.ValueLaws.{Passes, Found, literal_found, literal_again, not_same}
use Rattle.acn_asn_types.proofs.ListLaws.{all_pass, pass_all, some_fit, listed_found, listed_again}
use Rattle.acn_asn_types.proofs.SimpleLaws.{not_reserved}

-- ---- object identifiers

group_found : (b : Bool) (ts m : List Lexeme) (x : OidPart) (r : List Lexeme) → ts ≡ given b (mark (codes "(")) ++ m → group_if b m ≡ Ok (x, r) → Takes part_tokens (Passes part_fits) ts x r
unfolding grouped_part word_part number_part part_tokens
group_found true ts m x r p e =
    then_found (number m) _ _ e (λ n m1 e1 h.
    then_found (expect Mark (codes ")") m1) _ _ h (λ _ m2 e2 h.
    let a = number_found _ _ _ e1 in
    let b = expect_found _ _ _ _ _ e2 in
    let parts : ts ≡ part_tokens (part.Grouped n) ++ m2 = cc (p, a.0, b) in
    done (part.Grouped n) m2 _ _ h parts (lt-ltb n (2 ^ 64) a.1)))
group_found false ts m x r p e = rw p (by_kind (has Word m) e)
  where
    by_kind : (b : Bool) → cond b (word_part m) (number_part m) ≡ Ok (x, r) → Takes part_tokens (Passes part_fits) m x r
    by_kind true e =
        then_found (literal Word m) _ _ e (λ text m1 e1 h.
        let parts : m ≡ part_tokens (part.Word text) ++ m1 = literal_found _ _ _ _ e1 in
        done (part.Word text) m1 _ _ h parts refl)
    by_kind false e =
        then_found (number m) _ _ e (λ n m1 e1 h.
        let a = number_found _ _ _ e1 in
        let parts : m ≡ part_tokens (part.Number n) ++ m1 = a.0 in
        done (part.Number n) m1 _ _ h parts (lt-ltb n (2 ^ 64) a.1))

part_found : Found oid_part part_tokens part_fits
unfolding oid_part
part_found ts x r e = then_found (eat Mark (codes "(") ts) _ _ e (λ b m e1 h. group_found b ts m x r (given_found _ _ _ _ _ e1) h)

has_word : (text : List ℕ) (r : List Lexeme) → has Word (word text ∷ r) ≡ true
unfolding has
has_word text r = rw (text_of_again Word text r) refl

has_number : (text : List ℕ) (r : List Lexeme) → has Word (token Number text ∷ r) ≡ false
unfolding has text_of same_kind
has_number text r = refl

part_again : (x : OidPart) (r : List Lexeme) → Passes part_fits x → oid_part (part_tokens x ++ r) ≡ Ok (x, r)
unfolding oid_part grouped_part word_part number_part part_tokens same_kind
part_again (part.Word text) r fits =
    then_again _ _ _ _ _ (eat_nothing _ _ _ (sees_kind _ _ _ _ _ refl))
    (rw (has_word text r) (then_again _ _ _ _ _ (literal_again Word text r) refl))
part_again (part.Number n) r fits =
    then_again _ _ _ _ _ (eat_nothing _ _ _ (sees_kind _ _ _ _ _ refl))
    (rw (has_number (decimal n) r) (then_again _ _ _ _ _ (number_again n r (ltb-true n (2 ^ 64) fits)) refl))
part_again (part.Grouped n) r fits =
    then_again _ _ _ _ _ (eat_again _ _ _)
    (then_again _ _ _ _ _ (number_again n _ (ltb-true n (2 ^ 64) fits))
    (then_again _ _ _ _ _ (expect_again _ _ _) refl))

part_starts : (x : OidPart) (r : List Lexeme) → Passes part_fits x → has_part (part_tokens x ++ r) ≡ true
unfolding has_part part_tokens same_kind
part_starts (part.Word text) r fits = ap not (sees_kind _ _ _ _ _ refl)
part_starts (part.Number n) r fits = ap not (sees_kind _ _ _ _ _ refl)
part_starts (part.Grouped n) r fits = ap not (sees_text _ _ _ _ refl)

part_some : (x : OidPart) → Passes part_fits x → 0 < length (part_tokens x)
unfolding part_tokens
part_some (part.Word text) fits = omega arith
part_some (part.Number n) fits = omega arith
part_some (part.Grouped n) fits = omega arith

oid_if_found : (b : Bool) (ts m : List Lexeme) (o : Option Oid) (r : List Lexeme) → ts ≡ given b (mark (codes "{")) ++ m → oid_if b m ≡ Ok (o, r) → Takes (option_tokens oid_tokens) (Passes (option_fits oid_fits)) ts o r
unfolding oid_in oid_tokens
oid_if_found false ts m o r p e = done None m _ _ e p refl
oid_if_found true ts m o r p e =
    then_found (many has_part oid_part m) _ _ e (λ parts m1 e1 h.
    then_found (expect Mark (codes "}") m1) _ _ h (λ _ m2 e2 h.
    let a = repeat_found has_part oid_part part_tokens (Passes part_fits) part_found (length m) m _ _ e1 in
    let b = expect_found _ _ _ _ _ e2 in
    let made : Oid = record { parts = parts } in
    let spelled : ts ≡ option_tokens oid_tokens (Some made) ++ m2 = simp append_assoc (cc (p, a.parts, b)) in
    done (Some made) m2 _ _ h spelled (all_pass part_fits parts a.fits)))

pub oid_found : Found oid_at (option_tokens oid_tokens) (option_fits oid_fits)
unfolding oid_at
oid_found ts o r e = then_found (eat Mark (codes "{") ts) _ _ e (λ b m e1 h. oid_if_found b ts m o r (given_found _ _ _ _ _ e1) h)

parts_again : (xs : List OidPart) (r : List Lexeme) → list_all part_fits xs ≡ true → many has_part oid_part (flat_map part_tokens xs ++ mark (codes "}") ∷ r) ≡ Ok (xs, mark (codes "}") ∷ r)
unfolding has_part
parts_again xs r fits = many_again has_part oid_part part_tokens (Passes part_fits) (λ _. Unit {0}) (length (flat_map part_tokens xs ++ mark (codes "}") ∷ r)) (λ x r _ f _. part_again x r f) part_starts (λ _ _ _. tt) part_some xs (mark (codes "}") ∷ r) (omega arith) (pass_all part_fits xs fits) tt (ap not (sees_again _ _ _))

pub oid_again : (o : Option Oid) (r : List Lexeme) → option_fits oid_fits o ≡ true → sees Mark (codes "{") r ≡ false → oid_at (option_tokens oid_tokens o ++ r) ≡ Ok (o, r)
unfolding oid_at oid_in oid_tokens
oid_again None r fits ends = then_again _ _ _ _ _ (eat_nothing _ _ _ ends) refl
oid_again (Some o) r fits ends =
    simp append_assoc
    (then_again _ _ _ _ _ (eat_again _ _ _)
    (then_again _ _ _ _ _ (parts_again o.parts r fits)
    (then_again _ _ _ _ _ (expect_again _ _ _) refl)))

-- ---- tags of a module

abbrev Any : {A : Type 0} → A → Bool
Any x = true

automatic_found : (b : Bool) (ts m : List Lexeme) (o : Option Tagging) (r : List Lexeme) → ts ≡ given b (word (codes "AUTOMATIC")) ++ m → automatic_if b m ≡ Ok (o, r) → Takes (option_tokens tagging_tokens) (Passes Any) ts o r
unfolding with_tags tagging_tokens
automatic_found true ts m o r p e = then_found (expect Word (codes "TAGS") m) _ _ e (λ _ m1 e1 h. let parts : ts ≡ option_tokens tagging_tokens (Some tagging.Automatic) ++ m1 = cc (p, expect_found _ _ _ _ _ e1) in done (Some tagging.Automatic) m1 _ _ h parts refl)
automatic_found false ts m o r p e = done None m _ _ e p refl

implicit_found : (b : Bool) (ts m : List Lexeme) (o : Option Tagging) (r : List Lexeme) → ts ≡ given b (word (codes "IMPLICIT")) ++ m → implicit_if b m ≡ Ok (o, r) → Takes (option_tokens tagging_tokens) (Passes Any) ts o r
unfolding with_tags tagging_tokens
implicit_found true ts m o r p e = then_found (expect Word (codes "TAGS") m) _ _ e (λ _ m1 e1 h. let parts : ts ≡ option_tokens tagging_tokens (Some tagging.Implicit) ++ m1 = cc (p, expect_found _ _ _ _ _ e1) in done (Some tagging.Implicit) m1 _ _ h parts refl)
implicit_found false ts m o r p e = then_found (eat Word (codes "AUTOMATIC") m) _ _ e (λ b m' e1 h. rw p (automatic_found b m m' o r (given_found _ _ _ _ _ e1) h))

explicit_found : (b : Bool) (ts m : List Lexeme) (o : Option Tagging) (r : List Lexeme) → ts ≡ given b (word (codes "EXPLICIT")) ++ m → explicit_if b m ≡ Ok (o, r) → Takes (option_tokens tagging_tokens) (Passes Any) ts o r
unfolding with_tags tagging_tokens
explicit_found true ts m o r p e = then_found (expect Word (codes "TAGS") m) _ _ e (λ _ m1 e1 h. let parts : ts ≡ option_tokens tagging_tokens (Some tagging.Explicit) ++ m1 = cc (p, expect_found _ _ _ _ _ e1) in done (Some tagging.Explicit) m1 _ _ h parts refl)
explicit_found false ts m o r p e = then_found (eat Word (codes "IMPLICIT") m) _ _ e (λ b m' e1 h. rw p (implicit_found b m m' o r (given_found _ _ _ _ _ e1) h))

tagging_found : Found tagging_at (option_tokens tagging_tokens) Any
unfolding tagging_at
tagging_found ts o r e = then_found (eat Word (codes "EXPLICIT") ts) _ _ e (λ b m e1 h. explicit_found b ts m o r (given_found _ _ _ _ _ e1) h)

tagging_again : (o : Option Tagging) (r : List Lexeme) → tagging_at (option_tokens tagging_tokens o ++ mark (codes "::=") ∷ r) ≡ Ok (o, mark (codes "::=") ∷ r)
unfolding tagging_at with_tags tagging_tokens same_kind
tagging_again (Some tagging.Explicit) r = then_again _ _ _ _ _ (eat_again _ _ _) (then_again _ _ _ _ _ (expect_again _ _ _) refl)
tagging_again (Some tagging.Implicit) r =
    then_again _ _ _ _ _ (eat_nothing _ _ _ (sees_text _ _ _ _ refl))
    (then_again _ _ _ _ _ (eat_again _ _ _) (then_again _ _ _ _ _ (expect_again _ _ _) refl))
tagging_again (Some tagging.Automatic) r =
    then_again _ _ _ _ _ (eat_nothing _ _ _ (sees_text _ _ _ _ refl))
    (then_again _ _ _ _ _ (eat_nothing _ _ _ (sees_text _ _ _ _ refl))
    (then_again _ _ _ _ _ (eat_again _ _ _) (then_again _ _ _ _ _ (expect_again _ _ _) refl)))
tagging_again None r =
    then_again _ _ _ _ _ (eat_nothing _ _ _ (sees_kind _ _ _ _ _ refl))
    (then_again _ _ _ _ _ (eat_nothing _ _ _ (sees_kind _ _ _ _ _ refl))
    (then_again _ _ _ _ _ (eat_nothing _ _ _ (sees_kind _ _ _ _ _ refl)) refl))

abbrev pub opening_tokens : ModuleHead → List Lexeme
opening_tokens h = word h.name ∷ (option_tokens oid_tokens h.oid ++ word (codes "DEFINITIONS") ∷ option_tokens tagging_tokens h.tags)

abbrev pub opening_fits : ModuleHead → Bool
opening_fits h = is_reference h.name && option_fits oid_fits h.oid

pub head_found : Found head_at opening_tokens opening_fits
unfolding head_at
head_found ts x r e =
    then_found (steps.word is_reference ts) _ _ e (λ name m1 e1 h.
    then_found (oid_at m1) _ _ h (λ oid m2 e2 h.
    then_found (expect Word (codes "DEFINITIONS") m2) _ _ h (λ _ m3 e3 h.
    then_found (tagging_at m3) _ _ h (λ tags m4 e4 h.
    let a = word_found _ _ _ _ e1 in
    let b = oid_found _ _ _ e2 in
    let c = expect_found _ _ _ _ _ e3 in
    let d = tagging_found _ _ _ e4 in
    let made : ModuleHead = record { name = name; oid = oid; tags = tags } in
    let parts : ts ≡ opening_tokens made ++ m4 = simp append_assoc (cc (a.0, b.parts, c, d.parts)) in
    done made m4 _ _ h parts (both_true a.1 b.fits)))))

pub head_again : (x : ModuleHead) (r : List Lexeme) → opening_fits x ≡ true → head_at (opening_tokens x ++ mark (codes "::=") ∷ r) ≡ Ok (x, mark (codes "::=") ∷ r)
unfolding head_at same_kind
head_again x r fits =
    let f = and_parts (is_reference x.name) (option_fits oid_fits x.oid) fits in
    simp append_assoc
    (then_again _ _ _ _ _ (word_again is_reference x.name _ f.0)
    (then_again _ _ _ _ _ (oid_again x.oid _ f.1 (sees_kind _ _ _ _ _ refl))
    (then_again _ _ _ _ _ (expect_again _ _ _)
    (then_again _ _ _ _ _ (tagging_again x.tags r) refl))))

-- ---- names

abbrev name_tokens : List ℕ → List Lexeme
name_tokens name = word name ∷ []

name_found : Found (steps.word is_name) name_tokens is_name
name_found ts x r e = let a = word_found _ _ _ _ e in record { parts = a.0; fits = a.1 }

-- a name is no reserved word
pub name_is_not : (name text : List ℕ) → is_name name ≡ true → is_reserved text ≡ true → is_identifier text ≡ false → bytes_eq name text ≡ false
name_is_not name text f p q = by_reference (is_reference name) refl f
  where
    by_reference : (b : Bool) → is_reference name ≡ b → b || is_identifier name ≡ true → bytes_eq name text ≡ false
    by_reference true r f = not_reserved name text r p
    by_reference false r f = not_same name text f q

some_names_again : (names : List (List ℕ)) (r : List Lexeme) → some_fit is_name names ≡ true → has_comma r ≡ false → listed (steps.word is_name) (with_commas name_tokens names ++ r) ≡ Ok (names, r)
some_names_again [] r fits ends = absurd cc
some_names_again (n ∷ ns) r fits ends = listed_again (steps.word is_name) name_tokens is_name (λ _. Unit {0}) (length (with_commas name_tokens (n ∷ ns) ++ r)) (λ x r _ f _. word_again is_name x r f) (λ _. tt) n ns r (omega arith) fits tt ends

abbrev semicolon : List Lexeme → List Lexeme
semicolon r = mark (codes ";") ∷ r

names_found : Found names_at names_tokens (list_all is_name)
unfolding names_at names_tokens
names_found ts x r e = by_end (is_end ts) e
  where
    by_end : (b : Bool) → cond b (Ok ([], ts)) (listed (steps.word is_name) ts) ≡ Ok (x, r) → Takes names_tokens (Passes (list_all is_name)) ts x r
    by_end true e = done [] ts _ _ e refl refl
    by_end false e = let a = listed_found (steps.word is_name) name_tokens is_name name_found ts x r e in record { parts = a.parts; fits = (and_parts (is_some x) (list_all is_name x) a.fits).1 }

names_again : (names : List (List ℕ)) (r : List Lexeme) → list_all is_name names ≡ true → names_at (names_tokens names ++ semicolon r) ≡ Ok (names, semicolon r)
unfolding names_at names_tokens is_end has_comma same_kind
names_again [] r fits = rw (sees_again Mark (codes ";") r) refl
names_again (n ∷ ns) r fits =
    let not_end : sees Mark (codes ";") (with_commas name_tokens (n ∷ ns) ++ semicolon r) ≡ false = sees_kind _ _ _ _ _ refl in
    rw not_end (some_names_again (n ∷ ns) (semicolon r) fits (sees_text _ _ _ _ refl))

-- ---- exports

all_found : (b : Bool) (ts ts' m : List Lexeme) (o : Option Exports) (r : List Lexeme) → ts ≡ word (codes "EXPORTS") ∷ ts' → ts' ≡ given b (word (codes "ALL")) ++ m → all_if b m ≡ Ok (o, r) → Takes (option_tokens exports_tokens) (Passes (option_fits exports_fit)) ts o r
unfolding all_exports some_exports exports_tokens
all_found true ts ts' m o r p q e = then_found (expect Mark (codes ";") m) _ _ e (λ _ m1 e1 h. let parts : ts ≡ option_tokens exports_tokens (Some exports.All) ++ m1 = cc (p, q, expect_found _ _ _ _ _ e1) in done (Some exports.All) m1 _ _ h parts refl)
all_found false ts ts' m o r p q e =
    then_found (names_at m) _ _ e (λ names m1 e1 h.
    then_found (expect Mark (codes ";") m1) _ _ h (λ _ m2 e2 h.
    let a = names_found _ _ _ e1 in
    let parts : ts ≡ option_tokens exports_tokens (Some (exports.Some names)) ++ m2 = simp append_assoc (cc (p, q, a.parts, expect_found _ _ _ _ _ e2)) in
    done (Some (exports.Some names)) m2 _ _ h parts a.fits))

exports_if_found : (b : Bool) (ts m : List Lexeme) (o : Option Exports) (r : List Lexeme) → ts ≡ given b (word (codes "EXPORTS")) ++ m → exports_if b m ≡ Ok (o, r) → Takes (option_tokens exports_tokens) (Passes (option_fits exports_fit)) ts o r
exports_if_found true ts m o r p e = then_found (eat Word (codes "ALL") m) _ _ e (λ b m1 e1 h. all_found b ts m m1 o r p (given_found _ _ _ _ _ e1) h)
exports_if_found false ts m o r p e = done None m _ _ e p refl

pub exports_found : Found exports_at (option_tokens exports_tokens) (option_fits exports_fit)
unfolding exports_at
exports_found ts o r e = then_found (eat Word (codes "EXPORTS") ts) _ _ e (λ b m e1 h. exports_if_found b ts m o r (given_found _ _ _ _ _ e1) h)

names_word : (names : List (List ℕ)) (text : List ℕ) (r : List Lexeme) → list_all is_name names ≡ true → is_reserved text ≡ true → is_identifier text ≡ false → sees Word text (names_tokens names ++ semicolon r) ≡ false
unfolding names_tokens same_kind
names_word [] text r f p q = sees_kind _ _ _ _ _ refl
names_word (n ∷ ns) text r f p q = sees_text _ _ _ _ (name_is_not n text (and_parts (is_name n) (list_all is_name ns) f).0 p q)

pub exports_again : (o : Option Exports) (r : List Lexeme) → option_fits exports_fit o ≡ true → sees Word (codes "EXPORTS") r ≡ false → exports_at (option_tokens exports_tokens o ++ r) ≡ Ok (o, r)
unfolding exports_at all_exports some_exports exports_tokens reserved is_identifier
exports_again None r fits ends = then_again _ _ _ _ _ (eat_nothing _ _ _ ends) refl
exports_again (Some exports.All) r fits ends =
    then_again _ _ _ _ _ (eat_again _ _ _)
    (then_again _ _ _ _ _ (eat_again _ _ _)
    (then_again _ _ _ _ _ (expect_again _ _ _) refl))
exports_again (Some (exports.Some names)) r fits ends =
    simp append_assoc
    (then_again _ _ _ _ _ (eat_again _ _ _)
    (then_again _ _ _ _ _ (eat_nothing _ _ _ (names_word names (codes "ALL") r fits refl refl))
    (then_again _ _ _ _ _ (names_again names r fits)
    (then_again _ _ _ _ _ (expect_again _ _ _) refl))))

-- ---- imports

import_found : Found import_at import_tokens import_fits
unfolding import_at import_tokens names_tokens
import_found ts x r e =
    then_found (listed (steps.word is_name) ts) _ _ e (λ names m1 e1 h.
    then_found (expect Word (codes "FROM") m1) _ _ h (λ _ m2 e2 h.
    then_found (steps.word is_reference m2) _ _ h (λ name m3 e3 h.
    then_found (oid_at m3) _ _ h (λ oid m4 e4 h.
    let a = listed_found (steps.word is_name) name_tokens is_name name_found _ _ _ e1 in
    let b = expect_found _ _ _ _ _ e2 in
    let c = word_found _ _ _ _ e3 in
    let d = oid_found _ _ _ e4 in
    let made : Import = record { names = names; «module» = name; oid = oid } in
    let parts : ts ≡ import_tokens made ++ m4 = simp append_assoc (cc (a.parts, b, c.0, d.parts)) in
    done made m4 _ _ h parts (both_true (both_true a.fits c.1) d.fits)))))

import_again : (x : Import) (r : List Lexeme) → Passes import_fits x → sees Mark (codes "{") r ≡ false → import_at (import_tokens x ++ r) ≡ Ok (x, r)
unfolding import_at import_tokens names_tokens has_comma same_kind
import_again x r fits ends =
    let f = and_parts ((is_some x.names && list_all is_name x.names) && is_reference x.module) (option_fits oid_fits x.oid) fits in
    let g = and_parts (is_some x.names && list_all is_name x.names) (is_reference x.module) f.0 in
    simp append_assoc
    (then_again _ _ _ _ _ (some_names_again x.names _ g.0 (sees_kind _ _ _ _ _ refl))
    (then_again _ _ _ _ _ (expect_again _ _ _)
    (then_again _ _ _ _ _ (word_again is_reference x.module _ g.1)
    (then_again _ _ _ _ _ (oid_again x.oid r f.1 ends) refl))))

import_first : (names : List (List ℕ)) (text : List ℕ) (r : List Lexeme) → is_some names ≡ true → sees Mark text (with_commas name_tokens names ++ r) ≡ false
unfolding same_kind
import_first [] text r f = absurd cc
import_first (n ∷ ns) text r f = sees_kind _ _ _ _ _ refl

import_mark : (x : Import) (text : List ℕ) (r : List Lexeme) → Passes import_fits x → sees Mark text (import_tokens x ++ r) ≡ false
unfolding import_tokens names_tokens
import_mark x text r fits =
    let f = and_parts ((is_some x.names && list_all is_name x.names) && is_reference x.module) (option_fits oid_fits x.oid) fits in
    let g = and_parts (is_some x.names && list_all is_name x.names) (is_reference x.module) f.0 in
    simp append_assoc (import_first x.names text _ (and_parts (is_some x.names) (list_all is_name x.names) g.0).0)

import_starts : (x : Import) (r : List Lexeme) → Passes import_fits x → has_import (import_tokens x ++ r) ≡ true
unfolding has_import is_end
import_starts x r fits = ap not (import_mark x (codes ";") r fits)

import_some : (x : Import) → Passes import_fits x → 0 < length (import_tokens x)
unfolding import_tokens
import_some x fits = omega (arith, length-append (names_tokens x.names) (word (codes "FROM") ∷ word x.module ∷ option_tokens oid_tokens x.oid))

imports_if_found : (b : Bool) (ts m : List Lexeme) (o : Option (List Import)) (r : List Lexeme) → ts ≡ given b (word (codes "IMPORTS")) ++ m → imports_if b m ≡ Ok (o, r) → Takes (option_tokens imports_tokens) (Passes (option_fits (list_all import_fits))) ts o r
unfolding imports_in imports_tokens
imports_if_found true ts m o r p e =
    then_found (many has_import import_at m) _ _ e (λ found m1 e1 h.
    then_found (expect Mark (codes ";") m1) _ _ h (λ _ m2 e2 h.
    let a = repeat_found has_import import_at import_tokens (Passes import_fits) import_found (length m) m _ _ e1 in
    let parts : ts ≡ option_tokens imports_tokens (Some found) ++ m2 = simp append_assoc (cc (p, a.parts, expect_found _ _ _ _ _ e2)) in
    done (Some found) m2 _ _ h parts (all_pass import_fits found a.fits)))
imports_if_found false ts m o r p e = done None m _ _ e p refl

pub imports_found : Found imports_at (option_tokens imports_tokens) (option_fits (list_all import_fits))
unfolding imports_at
imports_found ts o r e = then_found (eat Word (codes "IMPORTS") ts) _ _ e (λ b m e1 h. imports_if_found b ts m o r (given_found _ _ _ _ _ e1) h)

rows_again : (xs : List Import) (r : List Lexeme) → list_all import_fits xs ≡ true → many has_import import_at (flat_map import_tokens xs ++ semicolon r) ≡ Ok (xs, semicolon r)
unfolding has_import is_end
rows_again xs r fits = many_again has_import import_at import_tokens (Passes import_fits) (λ r. sees Mark (codes "{") r ≡ false) (length (flat_map import_tokens xs ++ semicolon r)) (λ x r _ f e. import_again x r f e) import_starts (λ x r f. import_mark x (codes "{") r f) import_some xs (semicolon r) (omega arith) (pass_all import_fits xs fits) (sees_text _ _ _ _ refl) (ap not (sees_again _ _ _))

pub imports_again : (o : Option (List Import)) (r : List Lexeme) → option_fits (list_all import_fits) o ≡ true → sees Word (codes "IMPORTS") r ≡ false → imports_at (option_tokens imports_tokens o ++ r) ≡ Ok (o, r)
unfolding imports_at imports_in imports_tokens
imports_again None r fits ends = then_again _ _ _ _ _ (eat_nothing _ _ _ ends) refl
imports_again (Some xs) r fits ends =
    simp append_assoc
    (then_again _ _ _ _ _ (eat_again _ _ _)
    (then_again _ _ _ _ _ (rows_again xs r fits)
    (then_again _ _ _ _ _ (expect_again _ _ _) refl)))
