-- Fields: what is read is written so, and what is written is read again.
use Rattle.std.proofs.Common.{◌≡◌, ℕ, zero, suc, ◌+◌, ◌<◌, ◌≤◌, Bool, true, false, ◌&&◌, ◌||◌, not, cond, List, [], ◌∷◌, ◌++◌, length, refl, sym, ap, subst, ◌∙◌, append_assoc, length-append, arith}
use Rattle.std.specs.Prelude.{codes, Ok}
use Rattle.std.specs.List.{flat_map, list_all, list_any, AllByRecursion}
use Rattle.std.specs.Str.{bytes_eq}
use Rattle.std.proofs.lemmas.Slice.Eq.{bytes_eq-Decides}
use Rattle.acn_lex.specs.declared.Kind.TheVariants.{Word, Mark}
use Rattle.acn_lex.specs.Lexeme.{Lexeme, same_kind}
use Rattle.acn_cursor.specs.Steps.{token, given, sees, eat, expect, word, many, Parser}
use Rattle.acn_lex.specs.Words.{is_reference, is_upper, is_reserved, reserved}
use Rattle.acn_cursor.proofs.Laws.{Takes, done, then_found, then_again, given_found, sees_again, sees_kind, sees_text, eat_again, eat_nothing, expect_found, expect_again, word_found, word_again, repeat_found, many_again}
use Rattle.acn_acn_syntax.specs.MapTokens.{signed_tokens}
use Rattle.acn_acn_syntax.specs.Mirror.{Field, Braces, Fields, plain, inserted, number, no_braces, braces, no_fields, and_field}
use Rattle.acn_acn_syntax.specs.ModuleTokens.{Tokens, mark, joined, path_tokens, bracket_tokens, argument_tokens, kind_token, field_tokens, brace_tokens, fields_tokens, more_tokens, is_acn_identifier, is_path, is_signed, is_attr, is_field_kind, is_field, are_braces, are_fields}
use Rattle.acn_acn_syntax.specs.View.{fields_of}
use Rattle.acn_acn_syntax.specs.declared.maps.Signed.{Signed}
use Rattle.acn_acn_syntax.specs.declared.modules.AcnPath.{AcnPath}
use Rattle.acn_acn_syntax.specs.declared.modules.Attr.{Attr}
use Rattle.acn_acn_syntax.specs.declared.modules.FieldKind.{FieldKind}
use Rattle.acn_acn_syntax.specs.declared.modules.FieldKind.TheVariants as field
use Rattle.acn_acn_parse.specs.AttributeReading.{path, bracket, has_comma}
use Rattle.acn_acn_parse.specs.FieldReading.{next_path, arguments_if, arguments, null_if, boolean_if, integer_if, field_kind, number_rest, inserted_rest, starts_plain, next_field, none_if, fields, braces_if, braces_at, plain_rest, field_rest, field_in, field_at}
use Rattle.acn_acn_parse.specs.MapReading.{signed}
use Rattle.acn_acn_parse.proofs.AttributeLaws.{AreAttrs, bracket_found, bracket_again}
use Rattle.acn_acn_parse.proofs.MapLaws.{signed_found, signed_again}
use Rattle.acn_acn_parse.proofs.PathLaws.{IsPath, path_found, path_again}
use Rattle.acn_acn_parse.proofs.WordLaws.{pass_all, all_pass}
use Rattle.std.proofs.lemmas.Bool.{not-true, ltb-true, lt-ltb, and_parts}

-- ---- arguments

abbrev next_path_tokens : AcnPath → Tokens
next_path_tokens p = mark (codes ",") ∷ path_tokens p

next_path_found : (ts : List Lexeme) (p : AcnPath) (r : List Lexeme) → next_path ts ≡ Ok (p, r) → Takes next_path_tokens IsPath ts p r
unfolding next_path
next_path_found ts p r e =
    then_found (expect Mark (codes ",") ts) _ _ e (λ _ m1 e1 h.
    let a = expect_found _ _ _ _ _ e1 in
    let b = path_found m1 p r h in
    record { parts = a ∙ ap (λ z. mark (codes ",") ∷ z) b.parts; fits = b.fits })

next_path_again : (p : AcnPath) (r : List Lexeme) → IsPath p → sees Mark (codes ".") r ≡ false → next_path (next_path_tokens p ++ r) ≡ Ok (p, r)
unfolding next_path
next_path_again p r fits ends = then_again _ _ _ _ _ (expect_again _ _ _) (path_again p r fits ends)

abbrev pub ArePaths : List AcnPath → Type 0
ArePaths ps = list_all is_path ps ≡ true

arguments_if_found : (b : Bool) (ts m : List Lexeme) (ps : List AcnPath) (r : List Lexeme) → ts ≡ given b (mark (codes "<")) ++ m → arguments_if b m ≡ Ok (ps, r) → Takes argument_tokens ArePaths ts ps r
unfolding argument_tokens
arguments_if_found true ts m ps r p e =
    then_found (path m) _ _ e (λ first m1 e1 h.
    then_found (many has_comma next_path m1) _ _ h (λ more m2 e2 h.
    then_found (expect Mark (codes ">") m2) _ _ h (λ _ m3 e3 h.
    let a = path_found _ _ _ e1 in
    let b = repeat_found has_comma next_path next_path_tokens IsPath next_path_found (length m1) m1 _ _ e2 in
    let c = expect_found _ _ _ _ _ e3 in
    let parts : ts ≡ argument_tokens (first ∷ more) ++ m3 = simp append_assoc (cc (p, a.parts, b.parts, c)) in
    done _ _ _ _ h parts (rw (a.fits, pass_all is_path more b.fits) refl))))
arguments_if_found false ts m ps r p e = done _ _ _ _ e p refl

pub arguments_found : (ts : List Lexeme) (ps : List AcnPath) (r : List Lexeme) → arguments ts ≡ Ok (ps, r) → Takes argument_tokens ArePaths ts ps r
unfolding arguments
arguments_found ts ps r e = then_found (eat Mark (codes "<") ts) _ _ e (λ found m e1 h. arguments_if_found found ts m ps r (given_found _ _ _ _ _ e1) h)

-- a mark that is another
other_mark : (text other : List ℕ) (r : List Lexeme) → bytes_eq other text ≡ false → sees Mark text (mark other ∷ r) ≡ false
other_mark text other r e = sees_text _ _ _ _ e

more_paths_again : (ps : List AcnPath) (r : List Lexeme) → AllByRecursion IsPath ps → many has_comma next_path (flat_map next_path_tokens ps ++ mark (codes ">") ∷ r) ≡ Ok (ps, mark (codes ">") ∷ r)
more_paths_again ps r fits =
    many_again has_comma next_path next_path_tokens IsPath (λ z. sees Mark (codes ".") z ≡ false) (length (flat_map next_path_tokens ps ++ mark (codes ">") ∷ r)) (λ p r _ fits ends. next_path_again p r fits ends) (λ p r _. sees_again _ _ _) (λ p r _. other_mark _ _ _ refl) (λ p _. omega arith) ps _ (omega arith) fits (other_mark _ _ _ refl) (other_mark _ _ _ refl)

more_paths_stop : (ps : List AcnPath) (r : List Lexeme) → sees Mark (codes ".") (flat_map next_path_tokens ps ++ mark (codes ">") ∷ r) ≡ false
more_paths_stop [] r = other_mark _ _ _ refl
more_paths_stop (p ∷ ps) r = other_mark _ _ _ refl

pub arguments_again : (ps : List AcnPath) (r : List Lexeme) → ArePaths ps → sees Mark (codes "<") r ≡ false → arguments (argument_tokens ps ++ r) ≡ Ok (ps, r)
unfolding arguments argument_tokens
arguments_again [] r fits ends = then_again _ _ _ _ _ (eat_nothing _ _ _ ends) refl
arguments_again (p ∷ ps) r fits ends =
    let k = and_parts (is_path p) (list_all is_path ps) fits in
    simp append_assoc
    (then_again _ _ _ _ _ (eat_again _ _ _)
    (then_again _ _ _ _ _ (path_again p _ k.0 (more_paths_stop ps r))
    (then_again _ _ _ _ _ (more_paths_again ps r (all_pass is_path ps k.1))
    (then_again _ _ _ _ _ (expect_again _ _ _) refl))))

-- ---- kinds

abbrev IsKind : FieldKind → Type 0
IsKind k = is_field_kind k ≡ true

abbrev kind_tokens : FieldKind → Tokens
kind_tokens k = kind_token k ∷ []

null_found : (b : Bool) (ts m : List Lexeme) (k : FieldKind) (r : List Lexeme) → ts ≡ given b (token Word (codes "NULL")) ++ m → null_if b m ≡ Ok (k, r) → Takes kind_tokens IsKind ts k r
unfolding kind_token
null_found true ts m k r p e = done _ _ _ _ e p refl
null_found false ts m k r p e =
    then_found (word is_reference m) _ _ e (λ name m1 e1 h.
    let a = word_found _ _ _ _ e1 in
    done _ _ _ _ h (p ∙ a.0) a.1)

boolean_found : (b : Bool) (ts m : List Lexeme) (k : FieldKind) (r : List Lexeme) → ts ≡ given b (token Word (codes "BOOLEAN")) ++ m → boolean_if b m ≡ Ok (k, r) → Takes kind_tokens IsKind ts k r
unfolding kind_token
boolean_found true ts m k r p e = done _ _ _ _ e p refl
boolean_found false ts m k r p e = then_found (eat Word (codes "NULL") m) _ _ e (λ b m1 e1 h. null_found b ts m1 k r (p ∙ given_found _ _ _ _ _ e1) h)

integer_found : (b : Bool) (ts m : List Lexeme) (k : FieldKind) (r : List Lexeme) → ts ≡ given b (token Word (codes "INTEGER")) ++ m → integer_if b m ≡ Ok (k, r) → Takes kind_tokens IsKind ts k r
unfolding kind_token
integer_found true ts m k r p e = done _ _ _ _ e p refl
integer_found false ts m k r p e = then_found (eat Word (codes "BOOLEAN") m) _ _ e (λ b m1 e1 h. boolean_found b ts m1 k r (p ∙ given_found _ _ _ _ _ e1) h)

kind_found : (ts : List Lexeme) (k : FieldKind) (r : List Lexeme) → field_kind ts ≡ Ok (k, r) → Takes kind_tokens IsKind ts k r
unfolding field_kind
kind_found ts k r e = then_found (eat Word (codes "INTEGER") ts) _ _ e (λ b m1 e1 h. integer_found b ts m1 k r (given_found _ _ _ _ _ e1) h)

-- what is none of these words is no word that is one of them
apart : (words : List (List ℕ)) (text w : List ℕ) → list_any (bytes_eq text) words ≡ false → list_any (bytes_eq w) words ≡ true → bytes_eq text w ≡ false
apart [] text w h k = absurd cc
apart (x ∷ xs) text w h k = go (apart xs text w others) (bytes_eq w x) refl k
  where
    first : bytes_eq text x ≡ false
    first = one (bytes_eq text x) h
      where
        one : (b : Bool) → b || list_any (bytes_eq text) xs ≡ false → b ≡ false
        one true e = absurd cc
        one false e = refl

    others : list_any (bytes_eq text) xs ≡ false
    others = one (bytes_eq text x) h
      where
        one : (b : Bool) → b || list_any (bytes_eq text) xs ≡ false → list_any (bytes_eq text) xs ≡ false
        one true e = absurd cc
        one false e = e

    go : (list_any (bytes_eq w) xs ≡ true → bytes_eq text w ≡ false) → (b : Bool) → bytes_eq w x ≡ b → b || list_any (bytes_eq w) xs ≡ true → bytes_eq text w ≡ false
    go more true p e = subst (λ z. bytes_eq text z ≡ false) (sym ((bytes_eq-Decides w x).0 p)) first
    go more false p e = more e

-- a reference is no reserved word
pub no_word : (w text : List ℕ) → is_reserved w ≡ true → is_reference text ≡ true → bytes_eq text w ≡ false
unfolding is_reference
no_word w text k h = apart reserved text w (not-true _ (and_parts (is_upper text) (not (is_reserved text)) h).1) k

pub integer_reserved : is_reserved (codes "INTEGER") ≡ true
unfolding reserved
integer_reserved = refl

pub boolean_reserved : is_reserved (codes "BOOLEAN") ≡ true
unfolding reserved
boolean_reserved = refl

null_reserved : is_reserved (codes "NULL") ≡ true
unfolding reserved
null_reserved = refl

kind_again : (k : FieldKind) (r : List Lexeme) → IsKind k → field_kind (kind_token k ∷ r) ≡ Ok (k, r)
unfolding field_kind kind_token
kind_again field.Integer r fits = then_again _ _ _ _ _ (eat_again _ _ _) refl
kind_again field.Boolean r fits =
    then_again _ _ _ _ _ (eat_nothing _ _ _ (sees_text _ _ _ _ refl))
    (then_again _ _ _ _ _ (eat_again _ _ _) refl)
kind_again field.Null r fits =
    then_again _ _ _ _ _ (eat_nothing _ _ _ (sees_text _ _ _ _ refl))
    (then_again _ _ _ _ _ (eat_nothing _ _ _ (sees_text _ _ _ _ refl))
    (then_again _ _ _ _ _ (eat_again _ _ _) refl))
kind_again (field.Ref name) r fits =
    then_again _ _ _ _ _ (eat_nothing _ _ _ (sees_text _ _ _ _ (no_word _ _ integer_reserved fits)))
    (then_again _ _ _ _ _ (eat_nothing _ _ _ (sees_text _ _ _ _ (no_word _ _ boolean_reserved fits)))
    (then_again _ _ _ _ _ (eat_nothing _ _ _ (sees_text _ _ _ _ (no_word _ _ null_reserved fits)))
    (then_again _ _ _ _ _ (word_again _ _ _ fits) refl)))

-- ---- fields that hold no others

abbrev pub IsField : Field → Type 0
IsField f = is_field f ≡ true

number_found : (name : List ℕ) (ts m : List Lexeme) (f : Field) (r : List Lexeme) → is_acn_identifier name ≡ true → ts ≡ token Word name ∷ m → number_rest name m ≡ Ok (f, r) → Takes field_tokens IsField ts f r
unfolding number_rest
number_found name ts m f r fits p e =
    then_found (expect Mark (codes "(") m) _ _ e (λ _ m1 e1 h.
    then_found (signed m1) _ _ h (λ n m2 e2 h.
    then_found (expect Mark (codes ")") m2) _ _ h (λ _ m3 e3 h.
    let a = expect_found _ _ _ _ _ e1 in
    let b = signed_found _ _ _ e2 in
    let c = expect_found _ _ _ _ _ e3 in
    let parts : ts ≡ field_tokens (number name n) ++ m3 = simp append_assoc (cc (p, a, b.parts, c)) in
    done _ _ _ _ h parts (rw (fits, lt-ltb _ _ b.fits) refl))))

inserted_found : (name : List ℕ) (ts m : List Lexeme) (f : Field) (r : List Lexeme) → is_acn_identifier name ≡ true → ts ≡ token Word name ∷ m → inserted_rest name m ≡ Ok (f, r) → Takes field_tokens IsField ts f r
unfolding inserted_rest
inserted_found name ts m f r fits p e =
    then_found (field_kind m) _ _ e (λ k m1 e1 h.
    then_found (bracket m1) _ _ h (λ xs m2 e2 h.
    let a = kind_found _ _ _ e1 in
    let b = bracket_found _ _ _ e2 in
    let parts : ts ≡ field_tokens (inserted name k xs) ++ m2 = cc (p, a.parts, b.parts) in
    done _ _ _ _ h parts (rw (fits, a.fits, b.fits) refl)))

-- ---- fields as lists

abbrev next_tokens : Field → Tokens
next_tokens f = mark (codes ",") ∷ field_tokens f

abbrev list_tokens : List Field → Tokens
list_tokens = joined (codes ",") field_tokens

more_as_list : (xs : List Field) → more_tokens (fields_of xs) ≡ flat_map next_tokens xs
more_as_list [] = refl
more_as_list (x ∷ xs) = ap (λ z. mark (codes ",") ∷ (field_tokens x ++ z)) (more_as_list xs)

tokens_as_list : (xs : List Field) → fields_tokens (fields_of xs) ≡ list_tokens xs
tokens_as_list [] = refl
tokens_as_list (x ∷ xs) = ap (λ z. field_tokens x ++ z) (more_as_list xs)

fits_as_list : (xs : List Field) → are_fields (fields_of xs) ≡ list_all is_field xs
fits_as_list [] = refl
fits_as_list (x ∷ xs) = ap (λ z. is_field x && z) (fits_as_list xs)

abbrev list_of : Fields → List Field
list_of no_fields = []
list_of (and_field f fs) = f ∷ list_of fs

of_list : (fs : Fields) → fields_of (list_of fs) ≡ fs
of_list no_fields = refl
of_list (and_field f fs) = ap (and_field f) (of_list fs)

-- ---- braces, and fields that have them

abbrev AreFields : List Field → Type 0
AreFields xs = list_all is_field xs ≡ true

abbrev pub AreBraces : Braces → Type 0
AreBraces b = are_braces b ≡ true

abbrev closed_tokens : List Field → Tokens
closed_tokens xs = list_tokens xs ++ mark (codes "}") ∷ []

-- what may follow a field
abbrev pub EndsField : List Lexeme → Type 0
EndsField r = sees Mark (codes "{") r ≡ false

module _ (inner : Parser Field) where
  abbrev Found : Type 0
  Found = (ts : List Lexeme) (f : Field) (r : List Lexeme) → inner ts ≡ Ok (f, r) → Takes field_tokens IsField ts f r

  module _ (found : Found) where
    next_found : (ts : List Lexeme) (f : Field) (r : List Lexeme) → next_field inner ts ≡ Ok (f, r) → Takes next_tokens IsField ts f r
    unfolding next_field
    next_found ts f r e =
        then_found (expect Mark (codes ",") ts) _ _ e (λ _ m1 e1 h.
        let a = expect_found _ _ _ _ _ e1 in
        let b = found m1 f r h in
        record { parts = a ∙ ap (λ z. mark (codes ",") ∷ z) b.parts; fits = b.fits })

    none_found : (b : Bool) (ts m : List Lexeme) (xs : List Field) (r : List Lexeme) → ts ≡ given b (mark (codes "}")) ++ m → none_if inner b m ≡ Ok (xs, r) → Takes closed_tokens AreFields ts xs r
    none_found true ts m xs r p e = done _ _ _ _ e p refl
    none_found false ts m xs r p e =
        then_found (inner m) _ _ e (λ first m1 e1 h.
        then_found (many has_comma (next_field inner) m1) _ _ h (λ more m2 e2 h.
        then_found (expect Mark (codes "}") m2) _ _ h (λ _ m3 e3 h.
        let a = found _ _ _ e1 in
        let b = repeat_found has_comma (next_field inner) next_tokens IsField next_found (length m1) m1 _ _ e2 in
        let c = expect_found _ _ _ _ _ e3 in
        let parts : ts ≡ closed_tokens (first ∷ more) ++ m3 = simp append_assoc (cc (p, a.parts, b.parts, c)) in
        done _ _ _ _ h parts (rw (a.fits, pass_all is_field more b.fits) refl))))

    fields_found : (ts : List Lexeme) (xs : List Field) (r : List Lexeme) → fields inner ts ≡ Ok (xs, r) → Takes closed_tokens AreFields ts xs r
    unfolding fields
    fields_found ts xs r e = then_found (eat Mark (codes "}") ts) _ _ e (λ b m1 e1 h. none_found b ts m1 xs r (given_found _ _ _ _ _ e1) h)

    braces_if_found : (b : Bool) (ts m : List Lexeme) (bs : Braces) (r : List Lexeme) → ts ≡ given b (mark (codes "{")) ++ m → braces_if inner b m ≡ Ok (bs, r) → Takes brace_tokens AreBraces ts bs r
    braces_if_found true ts m bs r p e =
        then_found (fields inner m) _ _ e (λ xs m1 e1 h.
        let a = fields_found _ _ _ e1 in
        let as_list : ts ≡ mark (codes "{") ∷ (closed_tokens xs ++ m1) = cc (p, a.parts) in
        let parts : ts ≡ brace_tokens (braces (fields_of xs)) ++ m1 = as_list ∙ ap (λ z. mark (codes "{") ∷ ((z ++ mark (codes "}") ∷ []) ++ m1)) (sym (tokens_as_list xs)) in
        done _ _ _ _ h parts (fits_as_list xs ∙ a.fits))
    braces_if_found false ts m bs r p e = done _ _ _ _ e p refl

    pub braces_found : (ts : List Lexeme) (bs : Braces) (r : List Lexeme) → braces_at inner ts ≡ Ok (bs, r) → Takes brace_tokens AreBraces ts bs r
    unfolding braces_at
    braces_found ts bs r e = then_found (eat Mark (codes "{") ts) _ _ e (λ b m1 e1 h. braces_if_found b ts m1 bs r (given_found _ _ _ _ _ e1) h)

    plain_found : (name : List ℕ) (ts m : List Lexeme) (f : Field) (r : List Lexeme) → is_acn_identifier name ≡ true → ts ≡ token Word name ∷ m → plain_rest inner name m ≡ Ok (f, r) → Takes field_tokens IsField ts f r
    unfolding plain_rest
    plain_found name ts m f r fits p e =
        then_found (arguments m) _ _ e (λ ps m1 e1 h.
        then_found (bracket m1) _ _ h (λ xs m2 e2 h.
        then_found (braces_at inner m2) _ _ h (λ bs m3 e3 h.
        let a = arguments_found _ _ _ e1 in
        let b = bracket_found _ _ _ e2 in
        let c = braces_found _ _ _ e3 in
        let parts : ts ≡ field_tokens (plain name ps xs bs) ++ m3 = simp append_assoc (cc (p, a.parts, b.parts, c.parts)) in
        done _ _ _ _ h parts (rw (fits, a.fits, b.fits, c.fits) refl))))

    rest_found : (name : List ℕ) (ts m : List Lexeme) (f : Field) (r : List Lexeme) → is_acn_identifier name ≡ true → ts ≡ token Word name ∷ m → field_rest inner name m ≡ Ok (f, r) → Takes field_tokens IsField ts f r
    unfolding field_rest
    rest_found name ts m f r fits p e = by (sees Mark (codes "(") m) (starts_plain m) e
      where
        by : (a b : Bool) → cond a (number_rest name m) (cond b (plain_rest inner name m) (inserted_rest name m)) ≡ Ok (f, r) → Takes field_tokens IsField ts f r
        by true b e = number_found name ts m f r fits p e
        by false true e = plain_found name ts m f r fits p e
        by false false e = inserted_found name ts m f r fits p e

    pub in_found : (ts : List Lexeme) (f : Field) (r : List Lexeme) → field_in inner ts ≡ Ok (f, r) → Takes field_tokens IsField ts f r
    unfolding field_in
    in_found ts f r e =
        then_found (word is_acn_identifier ts) _ _ e (λ name m e1 h.
        let a = word_found _ _ _ _ e1 in
        rest_found name ts m f r a.1 a.0 h)

pub field_found : (n : ℕ) (ts : List Lexeme) (f : Field) (r : List Lexeme) → field_at n ts ≡ Ok (f, r) → Takes field_tokens IsField ts f r
field_found zero ts f r e = absurd cc
field_found (suc n) ts f r e = in_found (field_at n) (field_found n) ts f r e

-- ---- what is written is read again

-- a field begins with a word, which no mark is
pub field_no_mark : (f : Field) (text : List ℕ) (r : List Lexeme) → sees Mark text (field_tokens f ++ r) ≡ false
unfolding sees same_kind
field_no_mark (plain name ps xs bs) text r = refl
field_no_mark (inserted name k xs) text r = refl
field_no_mark (number name n) text r = refl

bracket_mark : (text : List ℕ) (xs : List Attr) (r : List Lexeme) → bytes_eq (codes "[") text ≡ false → sees Mark text (bracket_tokens xs ++ r) ≡ false
unfolding bracket_tokens
bracket_mark text xs r e = other_mark _ _ _ e

-- behind a name: the form is seen by the next token
is_number : (n : Signed) (r : List Lexeme) → sees Mark (codes "(") ((mark (codes "(") ∷ (signed_tokens n ++ mark (codes ")") ∷ [])) ++ r) ≡ true
is_number n r = sees_again _ _ _

is_plain : (ps : List AcnPath) (xs : List Attr) (r : List Lexeme) → (sees Mark (codes "(") (argument_tokens ps ++ (bracket_tokens xs ++ r)) ≡ false) × (starts_plain (argument_tokens ps ++ (bracket_tokens xs ++ r)) ≡ true)
unfolding argument_tokens bracket_tokens sees same_kind
is_plain [] xs r = (refl, refl)
is_plain (p ∷ ps) xs r = (refl, refl)

is_inserted : (k : FieldKind) (r : List Lexeme) → (sees Mark (codes "(") (kind_token k ∷ r) ≡ false) × (starts_plain (kind_token k ∷ r) ≡ false)
unfolding kind_token sees same_kind
is_inserted field.Integer r = (refl, refl)
is_inserted field.Boolean r = (refl, refl)
is_inserted field.Null r = (refl, refl)
is_inserted (field.Ref name) r = (refl, refl)

number_again : (name : List ℕ) (n : Signed) (r : List Lexeme) → is_signed n ≡ true → number_rest name (mark (codes "(") ∷ (signed_tokens n ++ mark (codes ")") ∷ r)) ≡ Ok (number name n, r)
unfolding number_rest
number_again name n r fits =
    then_again _ _ _ _ _ (expect_again _ _ _)
    (then_again _ _ _ _ _ (signed_again n _ (ltb-true _ _ fits))
    (then_again _ _ _ _ _ (expect_again _ _ _) refl))

inserted_again : (name : List ℕ) (k : FieldKind) (xs : List Attr) (r : List Lexeme) → IsKind k → AreAttrs xs → inserted_rest name (kind_token k ∷ (bracket_tokens xs ++ r)) ≡ Ok (inserted name k xs, r)
unfolding inserted_rest
inserted_again name k xs r fits all =
    then_again _ _ _ _ _ (kind_again k _ fits)
    (then_again _ _ _ _ _ (bracket_again xs r all) refl)

module _ (inner : Parser Field) (limit : ℕ) (again : (f : Field) (r : List Lexeme) → length (field_tokens f ++ r) ≤ limit → IsField f → EndsField r → inner (field_tokens f ++ r) ≡ Ok (f, r)) where
  next_again : (f : Field) (r : List Lexeme) → length (next_tokens f ++ r) ≤ limit → IsField f → EndsField r → next_field inner (next_tokens f ++ r) ≡ Ok (f, r)
  unfolding next_field
  next_again f r bound fits ends = then_again _ _ _ _ _ (expect_again _ _ _) (again f r (omega arith) fits ends)

  more_again : (xs : List Field) (r : List Lexeme) → length (flat_map next_tokens xs ++ mark (codes "}") ∷ r) ≤ limit → AllByRecursion IsField xs
      → many has_comma (next_field inner) (flat_map next_tokens xs ++ mark (codes "}") ∷ r) ≡ Ok (xs, mark (codes "}") ∷ r)
  more_again xs r bound fits =
      many_again has_comma (next_field inner) next_tokens IsField EndsField limit next_again (λ f r _. sees_again _ _ _) (λ f r _. other_mark _ _ _ refl) (λ f _. omega arith) xs _ bound fits (other_mark _ _ _ refl) (other_mark _ _ _ refl)

  more_ends : (xs : List Field) (r : List Lexeme) → EndsField (flat_map next_tokens xs ++ mark (codes "}") ∷ r)
  more_ends [] r = other_mark _ _ _ refl
  more_ends (x ∷ xs) r = other_mark _ _ _ refl

  fields_again : (xs : List Field) (r : List Lexeme) → length (list_tokens xs ++ mark (codes "}") ∷ r) ≤ limit → AreFields xs → fields inner (list_tokens xs ++ mark (codes "}") ∷ r) ≡ Ok (xs, r)
  unfolding fields
  fields_again [] r bound fits = then_again _ _ _ _ _ (eat_again _ _ _) refl
  fields_again (x ∷ xs) r bound fits =
      let k = and_parts (is_field x) (list_all is_field xs) fits in
      let split = append_assoc (field_tokens x) (flat_map next_tokens xs) (mark (codes "}") ∷ r) in
      let whole : length (field_tokens x ++ (flat_map next_tokens xs ++ mark (codes "}") ∷ r)) ≤ limit = subst (λ z. length z ≤ limit) split bound in
      let rest : length (flat_map next_tokens xs ++ mark (codes "}") ∷ r) ≤ limit = omega (arith, length-append (field_tokens x) (flat_map next_tokens xs ++ mark (codes "}") ∷ r)) in
      rw split
      (then_again _ _ _ _ _ (eat_nothing _ _ _ (field_no_mark x _ _))
      (then_again _ _ _ _ _ (again x _ whole k.0 (more_ends xs r))
      (then_again _ _ _ _ _ (more_again xs r rest (all_pass is_field xs k.1))
      (then_again _ _ _ _ _ (expect_again _ _ _) refl))))

  braced_again : (xs : List Field) (r : List Lexeme) → length (list_tokens xs ++ mark (codes "}") ∷ r) ≤ limit → AreFields xs → braces_at inner (mark (codes "{") ∷ (list_tokens xs ++ mark (codes "}") ∷ r)) ≡ Ok (braces (fields_of xs), r)
  unfolding braces_at
  braced_again xs r bound fits =
      then_again _ _ _ _ _ (eat_again _ _ _)
      (then_again _ _ _ _ _ (fields_again xs r bound fits) refl)

  pub braces_again : (bs : Braces) (r : List Lexeme) → length (brace_tokens bs ++ r) ≤ suc limit → AreBraces bs → EndsField r → braces_at inner (brace_tokens bs ++ r) ≡ Ok (bs, r)
  unfolding braces_at
  braces_again no_braces r bound fits ends = then_again _ _ _ _ _ (eat_nothing _ _ _ ends) refl
  braces_again (braces fs) r bound fits ends =
      let xs = list_of fs in
      let same = of_list fs in
      let whole : fields_tokens fs ≡ list_tokens xs = ap fields_tokens (sym same) ∙ tokens_as_list xs in
      let fit : AreFields xs = sym (fits_as_list xs) ∙ ap are_fields same ∙ fits in
      let split : (fields_tokens fs ++ mark (codes "}") ∷ []) ++ r ≡ list_tokens xs ++ mark (codes "}") ∷ r = ap (λ z. (z ++ mark (codes "}") ∷ []) ++ r) whole ∙ append_assoc (list_tokens xs) (mark (codes "}") ∷ []) r in
      let less : length ((fields_tokens fs ++ mark (codes "}") ∷ []) ++ r) ≤ limit = omega arith in
      let short : length (list_tokens xs ++ mark (codes "}") ∷ r) ≤ limit = subst (λ z. length z ≤ limit) split less in
      ap (λ z. braces_at inner (mark (codes "{") ∷ z)) split ∙ braced_again xs r short fit ∙ ap (λ z. Ok (braces z, r)) same

  plain_again : (name : List ℕ) (ps : List AcnPath) (xs : List Attr) (bs : Braces) (r : List Lexeme) → length (brace_tokens bs ++ r) ≤ suc limit → ArePaths ps → AreAttrs xs → AreBraces bs → EndsField r
      → plain_rest inner name (argument_tokens ps ++ (bracket_tokens xs ++ (brace_tokens bs ++ r))) ≡ Ok (plain name ps xs bs, r)
  unfolding plain_rest
  plain_again name ps xs bs r bound paths attrs fits ends =
      then_again _ _ _ _ _ (arguments_again ps _ paths (bracket_mark _ xs _ refl))
      (then_again _ _ _ _ _ (bracket_again xs _ attrs)
      (then_again _ _ _ _ _ (braces_again bs r bound fits ends) refl))

  in_again : (f : Field) (r : List Lexeme) → length (field_tokens f ++ r) ≤ suc limit → IsField f → EndsField r → field_in inner (field_tokens f ++ r) ≡ Ok (f, r)
  unfolding field_in field_rest
  in_again (number name n) r bound fits ends =
      let k = and_parts (is_acn_identifier name) (is_signed n) fits in
      let split : (signed_tokens n ++ mark (codes ")") ∷ []) ++ r ≡ signed_tokens n ++ mark (codes ")") ∷ r = append_assoc (signed_tokens n) (mark (codes ")") ∷ []) r in
      then_again _ _ _ _ _ (word_again _ _ _ k.0)
      (rw (is_number n r) (ap (λ z. number_rest name (mark (codes "(") ∷ z)) split ∙ number_again name n r k.1))
  in_again (inserted name kind xs) r bound fits ends =
      let k = and_parts (is_acn_identifier name) (is_field_kind kind && list_all is_attr xs) fits in
      let l = and_parts (is_field_kind kind) (list_all is_attr xs) k.1 in
      let seen = is_inserted kind (bracket_tokens xs ++ r) in
      then_again _ _ _ _ _ (word_again _ _ _ k.0)
      (rw (seen.0, seen.1) (inserted_again name kind xs r l.0 l.1))
  in_again (plain name ps xs bs) r bound fits ends =
      let k = and_parts (is_acn_identifier name) (list_all is_path ps && (list_all is_attr xs && are_braces bs)) fits in
      let l = and_parts (list_all is_path ps) (list_all is_attr xs && are_braces bs) k.1 in
      let m = and_parts (list_all is_attr xs) (are_braces bs) l.1 in
      let split : (argument_tokens ps ++ (bracket_tokens xs ++ brace_tokens bs)) ++ r ≡ argument_tokens ps ++ (bracket_tokens xs ++ (brace_tokens bs ++ r)) = simp append_assoc refl in
      let seen = is_plain ps xs (brace_tokens bs ++ r) in
      let all : length ((argument_tokens ps ++ (bracket_tokens xs ++ brace_tokens bs)) ++ r) ≤ limit = omega arith in
      let whole : length (argument_tokens ps ++ (bracket_tokens xs ++ (brace_tokens bs ++ r))) ≤ limit = subst (λ z. length z ≤ limit) split all in
      let less : length (brace_tokens bs ++ r) ≤ suc limit = omega (arith, length-append (argument_tokens ps) (bracket_tokens xs ++ (brace_tokens bs ++ r)), length-append (bracket_tokens xs) (brace_tokens bs ++ r)) in
      then_again _ _ _ _ _ (word_again _ _ _ k.0)
      (rw split (rw (seen.0, seen.1) (plain_again name ps xs bs r less l.0 m.0 m.1 ends)))

some_tokens : (f : Field) (r : List Lexeme) → 0 < length (field_tokens f ++ r)
some_tokens (plain name ps xs bs) r = omega arith
some_tokens (inserted name k xs) r = omega arith
some_tokens (number name n) r = omega arith

pub field_again : (n : ℕ) (f : Field) (r : List Lexeme) → length (field_tokens f ++ r) ≤ n → IsField f → EndsField r → field_at n (field_tokens f ++ r) ≡ Ok (f, r)
field_again zero f r bound fits ends = absurd (omega (arith, some_tokens f r))
field_again (suc n) f r bound fits ends = in_again (field_at n) n (field_again n) f r bound fits ends
