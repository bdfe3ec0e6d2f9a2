-- Attributes: what is read is written so, and what is written is read again.
use Rattle.std.proofs.Common.{◌≡◌, ℕ, ◌+◌, ◌<◌, ◌≤◌, ◌^◌, Bool, true, false, ◌&&◌, cond, List, [], ◌∷◌, ◌++◌, length, Option, Some, None, refl, sym, ap, subst, ◌∙◌, append_assoc, length-append, arith, nat_lt}
use Rattle.std.specs.Prelude.{codes, is_some, Ok}
use Rattle.std.specs.List.{flat_map, list_all, AllByRecursion}
use Rattle.std.specs.Fmt.{decimal}
use Rattle.std.proofs.lemmas.Bool.Decides.{nat_tests}
use Rattle.acn_lex.specs.declared.Kind.TheVariants.{Word, Number, Mark, Bits, Hex}
use Rattle.acn_lex.specs.Lexeme.{Lexeme, same_kind}
use Rattle.acn_cursor.specs.Steps.{token, given, sees, eat, expect, word, number, many, text_of, taken_if, Outcome}
use Rattle.acn_cursor.proofs.Laws.{Takes, done, outcome, then_found, then_again, given_found, sees_again, sees_kind, sees_text, eat_again, eat_nothing, expect_found, expect_again, word_found, word_again, number_found, number_again, repeat_found, many_again, text_of_found, text_of_again, taken_found}
use Rattle.acn_acn_syntax.specs.ModuleTokens.{Tokens, mark, joined, between, path_tokens, condition_tokens, size_tokens, encoding_word, order_word, align_word, literal_token, attr_tokens, bracket_tokens, is_acn_identifier, is_path, is_condition, is_some_of, is_size, is_attr}
use Rattle.acn_acn_syntax.specs.declared.modules.AcnPath.{AcnPath}
use Rattle.acn_acn_syntax.specs.declared.modules.Attr.{Attr}
use Rattle.acn_acn_syntax.specs.declared.modules.Attr.TheVariants as attr
use Rattle.acn_acn_syntax.specs.declared.modules.Condition.{Condition}
use Rattle.acn_acn_syntax.specs.declared.modules.Literal.{Literal}
use Rattle.acn_acn_syntax.specs.declared.modules.Literal.TheVariants as literal
use Rattle.acn_acn_syntax.specs.declared.modules.SizeAttr.{SizeAttr}
use Rattle.acn_acn_syntax.specs.declared.modules.SizeAttr.TheVariants as size
use Rattle.acn_acn_parse.specs.AttributeReading.{has_kind, has_stop, has_comma, path, conditions, size_if, word_size, number_size, size_of, literal_if, literal_of, attribute_by, attribute, next_attribute, attributes_if, attributes, bracket}
use Rattle.acn_acn_parse.specs.WordReading.{word_as, attribute_of, encoding_of, endianness_of, alignment_of}
use Rattle.acn_acn_parse.specs.declared.words.Attribute.{Attribute}
use Rattle.acn_acn_parse.specs.declared.words.Attribute.TheVariants as name
use Rattle.acn_acn_parse.proofs.PathLaws.{EndsPath, EndsCondition, EndsConditions, path_found, path_again, conditions_found, conditions_again}
use Rattle.acn_acn_parse.proofs.WordLaws.{word_as_found, word_as_again, name_word, attribute_named, attribute_again, encoding_named, encoding_again, order_named, order_again, align_named, align_again, pass_all, all_pass, not_terminated}
use Rattle.std.proofs.lemmas.Bool.{lt-ltb, ltb-true, and_parts}

-- ---- sizes

abbrev IsSize : SizeAttr → Type 0
IsSize s = is_size s ≡ true

size_if_found : (b : Bool) (ts m : List Lexeme) (s : SizeAttr) (r : List Lexeme) → ts ≡ given b (token Word (codes "null-terminated")) ++ m → size_if b m ≡ Ok (s, r) → Takes size_tokens IsSize ts s r
unfolding size_tokens
size_if_found true ts m s r p e = done _ _ _ _ e p refl
size_if_found false ts m s r p e =
    then_found (path m) _ _ e (λ to m' e1 h.
    let a = path_found _ _ _ e1 in
    done _ _ _ _ h (p ∙ a.parts) a.fits)

size_by_kind : (b : Bool) (ts : List Lexeme) (s : SizeAttr) (r : List Lexeme) → cond b (number_size ts) (word_size ts) ≡ Ok (s, r) → Takes size_tokens IsSize ts s r
unfolding size_tokens
size_by_kind true ts s r e =
    then_found (number ts) _ _ e (λ n m e1 h.
    let a = number_found _ _ _ e1 in
    done _ _ _ _ h a.0 (lt-ltb _ _ a.1))
size_by_kind false ts s r e = then_found (eat Word (codes "null-terminated") ts) _ _ e (λ found m e1 h. size_if_found found ts m s r (given_found _ _ _ _ _ e1) h)

size_found : (ts : List Lexeme) (s : SizeAttr) (r : List Lexeme) → size_of ts ≡ Ok (s, r) → Takes size_tokens IsSize ts s r
unfolding size_of
size_found ts s r e = size_by_kind (has_kind Number ts) ts s r e

word_no_number : (text : List ℕ) (r : List Lexeme) → has_kind Number (token Word text ∷ r) ≡ false
unfolding text_of same_kind
word_no_number text r = refl

size_path_again : (ns : List (List ℕ)) (r : List Lexeme) → is_path (record { names = ns }) ≡ true → EndsPath r → size_of (path_tokens (record { names = ns }) ++ r) ≡ Ok (size.Path (record { names = ns }), r)
unfolding size_of path_tokens
size_path_again [] r fits ends = absurd cc
size_path_again (n ∷ ns) r fits ends =
    let k = and_parts (is_acn_identifier n) (list_all is_acn_identifier ns) fits in
    rw (word_no_number n _)
    (then_again _ _ _ _ _ (eat_nothing _ _ _ (sees_text _ _ _ _ (not_terminated n k.0)))
    (then_again _ _ _ _ _ (path_again (record { names = n ∷ ns }) r fits ends) refl))

size_again : (s : SizeAttr) (r : List Lexeme) → IsSize s → EndsPath r → size_of (size_tokens s ++ r) ≡ Ok (s, r)
unfolding size_of size_tokens
size_again (size.Number n) r fits ends = rw (ap is_some (text_of_again Number (decimal n) r)) (then_again _ _ _ _ _ (number_again n r (ltb-true _ _ fits)) refl)
size_again size.NullTerminated r fits ends = rw (word_no_number (codes "null-terminated") r) (then_again _ _ _ _ _ (eat_again _ _ _) refl)
size_again (size.Path p) r fits ends = size_path_again p.names r fits ends

-- ---- literals

literal_by : (a b : Option (List ℕ)) (ts : List Lexeme) (l : Literal) (r : List Lexeme) → text_of Bits ts ≡ a → text_of Hex ts ≡ b → taken_if (literal_if a b) ts ≡ Ok (l, r) → ts ≡ literal_token l ∷ r
unfolding literal_token
literal_by (Some text) b ts l r p q e =
    let t = taken_found (Some (literal.Bits text)) ts l r e in
    let is : literal.Bits text ≡ l = cc in
    text_of_found Bits ts text p ∙ ap (λ z. token Bits text ∷ z) t.1 ∙ ap (λ z. literal_token z ∷ r) is
literal_by None (Some text) ts l r p q e =
    let t = taken_found (Some (literal.Hex text)) ts l r e in
    let is : literal.Hex text ≡ l = cc in
    text_of_found Hex ts text q ∙ ap (λ z. token Hex text ∷ z) t.1 ∙ ap (λ z. literal_token z ∷ r) is
literal_by None None ts l r p q e = absurd cc

literal_found : (ts : List Lexeme) (l : Literal) (r : List Lexeme) → literal_of ts ≡ Ok (l, r) → ts ≡ literal_token l ∷ r
unfolding literal_of
literal_found ts l r e = literal_by (text_of Bits ts) (text_of Hex ts) ts l r refl refl e

literal_again : (l : Literal) (r : List Lexeme) → literal_of (literal_token l ∷ r) ≡ Ok (l, r)
unfolding literal_of literal_token text_of same_kind
literal_again (literal.Bits text) r = refl
literal_again (literal.Hex text) r = refl

-- ---- attributes

abbrev pub IsAttr : Attr → Type 0
IsAttr x = is_attr x ≡ true

-- the attribute whose name was taken
attribute_by_found : (a : Attribute) (ts m : List Lexeme) (x : Attr) (r : List Lexeme) → ts ≡ token Word (name_word a) ∷ m → attribute_by a m ≡ Ok (x, r) → Takes attr_tokens IsAttr ts x r
unfolding attr_tokens
attribute_by_found name.Size ts m x r p e =
    then_found (size_of m) _ _ e (λ s m1 e1 h.
    let a = size_found _ _ _ e1 in
    done _ _ _ _ h (p ∙ ap (λ z. token Word (codes "size") ∷ z) a.parts) a.fits)
attribute_by_found name.Encoding ts m x r p e =
    then_found (word_as encoding_of m) _ _ e (λ s m1 e1 h.
    let a = word_as_found encoding_of encoding_word encoding_named _ _ _ e1 in
    done _ _ _ _ h (p ∙ ap (λ z. token Word (codes "encoding") ∷ z) a) refl)
attribute_by_found name.Endianness ts m x r p e =
    then_found (word_as endianness_of m) _ _ e (λ s m1 e1 h.
    let a = word_as_found endianness_of order_word order_named _ _ _ e1 in
    done _ _ _ _ h (p ∙ ap (λ z. token Word (codes "endianness") ∷ z) a) refl)
attribute_by_found name.AlignToNext ts m x r p e =
    then_found (word_as alignment_of m) _ _ e (λ s m1 e1 h.
    let a = word_as_found alignment_of align_word align_named _ _ _ e1 in
    done _ _ _ _ h (p ∙ ap (λ z. token Word (codes "align-to-next") ∷ z) a) refl)
attribute_by_found name.EncodeValues ts m x r p e = done _ _ _ _ e p refl
attribute_by_found name.TrueValue ts m x r p e =
    then_found (literal_of m) _ _ e (λ l m1 e1 h. done _ _ _ _ h (p ∙ ap (λ z. token Word (codes "true-value") ∷ z) (literal_found _ _ _ e1)) refl)
attribute_by_found name.FalseValue ts m x r p e =
    then_found (literal_of m) _ _ e (λ l m1 e1 h. done _ _ _ _ h (p ∙ ap (λ z. token Word (codes "false-value") ∷ z) (literal_found _ _ _ e1)) refl)
attribute_by_found name.Pattern ts m x r p e =
    then_found (literal_of m) _ _ e (λ l m1 e1 h. done _ _ _ _ h (p ∙ ap (λ z. token Word (codes "pattern") ∷ z) (literal_found _ _ _ e1)) refl)
attribute_by_found name.TerminationPattern ts m x r p e =
    then_found (literal_of m) _ _ e (λ l m1 e1 h. done _ _ _ _ h (p ∙ ap (λ z. token Word (codes "termination-pattern") ∷ z) (literal_found _ _ _ e1)) refl)
attribute_by_found name.PresentWhen ts m x r p e =
    then_found (conditions m) _ _ e (λ cs m1 e1 h.
    let a = conditions_found _ _ _ e1 in
    done _ _ _ _ h (p ∙ ap (λ z. token Word (codes "present-when") ∷ z) a.parts) a.fits)
attribute_by_found name.Determinant ts m x r p e =
    then_found (path m) _ _ e (λ to m1 e1 h.
    let a = path_found _ _ _ e1 in
    done _ _ _ _ h (p ∙ ap (λ z. token Word (codes "determinant") ∷ z) a.parts) a.fits)
attribute_by_found name.MappingFunction ts m x r p e =
    then_found (word is_acn_identifier m) _ _ e (λ to m1 e1 h.
    let a = word_found _ _ _ _ e1 in
    done _ _ _ _ h (p ∙ ap (λ z. token Word (codes "mapping-function") ∷ z) a.0) a.1)

pub attribute_found : (ts : List Lexeme) (x : Attr) (r : List Lexeme) → attribute ts ≡ Ok (x, r) → Takes attr_tokens IsAttr ts x r
unfolding attribute
attribute_found ts x r e = then_found (word_as attribute_of ts) _ _ e (λ a m e1 h. attribute_by_found a ts m x r (word_as_found attribute_of name_word attribute_named _ _ _ e1) h)

-- what may follow an attribute
abbrev pub EndsAttr : List Lexeme → Type 0
EndsAttr = EndsConditions

named_again : (a : Attribute) (m : List Lexeme) (y : Outcome Attr) → attribute_by a m ≡ y → attribute (token Word (name_word a) ∷ m) ≡ y
unfolding attribute
named_again a m y e = then_again _ _ _ _ _ (word_as_again attribute_of (name_word a) a m (attribute_again a)) e

pub attr_again : (x : Attr) (r : List Lexeme) → IsAttr x → EndsAttr r → attribute (attr_tokens x ++ r) ≡ Ok (x, r)
unfolding attr_tokens
attr_again (attr.Size s) r fits ends = named_again name.Size _ _ (then_again _ _ _ _ _ (size_again s r fits ends.last.stop) refl)
attr_again (attr.Encoding e) r fits ends = named_again name.Encoding _ _ (then_again _ _ _ _ _ (word_as_again encoding_of _ e r (encoding_again e)) refl)
attr_again (attr.Endianness e) r fits ends = named_again name.Endianness _ _ (then_again _ _ _ _ _ (word_as_again endianness_of _ e r (order_again e)) refl)
attr_again (attr.AlignToNext a) r fits ends = named_again name.AlignToNext _ _ (then_again _ _ _ _ _ (word_as_again alignment_of _ a r (align_again a)) refl)
attr_again attr.EncodeValues r fits ends = named_again name.EncodeValues _ _ refl
attr_again (attr.TrueValue l) r fits ends = named_again name.TrueValue _ _ (then_again _ _ _ _ _ (literal_again l r) refl)
attr_again (attr.FalseValue l) r fits ends = named_again name.FalseValue _ _ (then_again _ _ _ _ _ (literal_again l r) refl)
attr_again (attr.Pattern l) r fits ends = named_again name.Pattern _ _ (then_again _ _ _ _ _ (literal_again l r) refl)
attr_again (attr.TerminationPattern l) r fits ends = named_again name.TerminationPattern _ _ (then_again _ _ _ _ _ (literal_again l r) refl)
attr_again (attr.PresentWhen cs) r fits ends = named_again name.PresentWhen _ _ (then_again _ _ _ _ _ (conditions_again cs r fits ends) refl)
attr_again (attr.Determinant p) r fits ends = named_again name.Determinant _ _ (then_again _ _ _ _ _ (path_again p r fits ends.last.stop) refl)
attr_again (attr.MappingFunction to) r fits ends = named_again name.MappingFunction _ _ (then_again _ _ _ _ _ (word_again _ _ _ fits) refl)

-- an attribute begins with a word, which no mark is
attr_no_mark : (x : Attr) (text : List ℕ) (r : List Lexeme) → sees Mark text (attr_tokens x ++ r) ≡ false
unfolding attr_tokens sees same_kind
attr_no_mark (attr.Size s) text r = refl
attr_no_mark (attr.Encoding e) text r = refl
attr_no_mark (attr.Endianness e) text r = refl
attr_no_mark (attr.AlignToNext a) text r = refl
attr_no_mark attr.EncodeValues text r = refl
attr_no_mark (attr.TrueValue l) text r = refl
attr_no_mark (attr.FalseValue l) text r = refl
attr_no_mark (attr.Pattern l) text r = refl
attr_no_mark (attr.TerminationPattern l) text r = refl
attr_no_mark (attr.PresentWhen cs) text r = refl
attr_no_mark (attr.Determinant p) text r = refl
attr_no_mark (attr.MappingFunction to) text r = refl

-- ---- lists of attributes

abbrev next_tokens : Attr → Tokens
next_tokens x = mark (codes ",") ∷ attr_tokens x

next_found : (ts : List Lexeme) (x : Attr) (r : List Lexeme) → next_attribute ts ≡ Ok (x, r) → Takes next_tokens IsAttr ts x r
unfolding next_attribute
next_found ts x r e =
    then_found (expect Mark (codes ",") ts) _ _ e (λ _ m1 e1 h.
    let a = expect_found _ _ _ _ _ e1 in
    let b = attribute_found m1 x r h in
    record { parts = a ∙ ap (λ z. mark (codes ",") ∷ z) b.parts; fits = b.fits })

next_again : (x : Attr) (r : List Lexeme) → IsAttr x → EndsAttr r → next_attribute (next_tokens x ++ r) ≡ Ok (x, r)
unfolding next_attribute
next_again x r fits ends = then_again _ _ _ _ _ (expect_again _ _ _) (attr_again x r fits ends)

abbrev attributes_tokens : List Attr → Tokens
attributes_tokens xs = joined (codes ",") attr_tokens xs

abbrev pub AreAttrs : List Attr → Type 0
AreAttrs xs = list_all is_attr xs ≡ true

attributes_if_found : (b : Bool) (ts : List Lexeme) (xs : List Attr) (r : List Lexeme) → attributes_if b ts ≡ Ok (xs, r) → Takes attributes_tokens AreAttrs ts xs r
attributes_if_found true ts xs r e = done _ _ _ _ e refl refl
attributes_if_found false ts xs r e =
    then_found (attribute ts) _ _ e (λ first m1 e1 h.
    then_found (many has_comma next_attribute m1) _ _ h (λ more m2 e2 h.
    let a = attribute_found _ _ _ e1 in
    let b = repeat_found has_comma next_attribute next_tokens IsAttr next_found (length m1) m1 _ _ e2 in
    let parts : ts ≡ (attr_tokens first ++ flat_map next_tokens more) ++ m2 = simp append_assoc (cc (a.parts, b.parts)) in
    done _ _ _ _ h parts (rw (a.fits, pass_all is_attr more b.fits) refl)))

pub bracket_found : (ts : List Lexeme) (xs : List Attr) (r : List Lexeme) → bracket ts ≡ Ok (xs, r) → Takes bracket_tokens AreAttrs ts xs r
unfolding bracket bracket_tokens attributes
bracket_found ts xs r e =
    then_found (expect Mark (codes "[") ts) _ _ e (λ _ m1 e1 h.
    then_found (attributes m1) _ _ h (λ all m2 e2 h.
    then_found (expect Mark (codes "]") m2) _ _ h (λ _ m3 e3 h.
    let a = expect_found _ _ _ _ _ e1 in
    let b = attributes_if_found (sees Mark (codes "]") m1) m1 all m2 e2 in
    let c = expect_found _ _ _ _ _ e3 in
    let parts : ts ≡ (mark (codes "[") ∷ (attributes_tokens all ++ mark (codes "]") ∷ [])) ++ m3 = simp append_assoc (cc (a, b.parts, c)) in
    done _ _ _ _ h parts b.fits)))

closing : (r : List Lexeme) → EndsAttr (mark (codes "]") ∷ r)
unfolding sees text_of same_kind
closing r = record { last = record { stop = refl; equal = refl }; word = refl }

comma_ends : (r : List Lexeme) → EndsAttr (mark (codes ",") ∷ r)
unfolding sees text_of same_kind
comma_ends r = record { last = record { stop = refl; equal = refl }; word = refl }

no_comma : (r : List Lexeme) → has_comma (mark (codes "]") ∷ r) ≡ false
unfolding sees same_kind
no_comma r = refl

more_again : (xs : List Attr) (r : List Lexeme) → AllByRecursion IsAttr xs → many has_comma next_attribute (flat_map next_tokens xs ++ mark (codes "]") ∷ r) ≡ Ok (xs, mark (codes "]") ∷ r)
more_again xs r fits =
    many_again has_comma next_attribute next_tokens IsAttr EndsAttr (length (flat_map next_tokens xs ++ mark (codes "]") ∷ r)) (λ x r _ fits ends. next_again x r fits ends) (λ x r _. sees_again _ _ _) (λ x r _. comma_ends _) (λ x _. omega arith) xs _ (omega arith) fits (closing r) (no_comma r)

more_ends : (xs : List Attr) (r : List Lexeme) → EndsAttr (flat_map next_tokens xs ++ mark (codes "]") ∷ r)
more_ends [] r = closing r
more_ends (x ∷ xs) r = comma_ends _

attributes_again : (xs : List Attr) (r : List Lexeme) → AreAttrs xs → attributes (attributes_tokens xs ++ mark (codes "]") ∷ r) ≡ Ok (xs, mark (codes "]") ∷ r)
unfolding attributes
attributes_again [] r fits = rw (sees_again Mark (codes "]") r) refl
attributes_again (x ∷ xs) r fits =
    let k = and_parts (is_attr x) (list_all is_attr xs) fits in
    rw (append_assoc (attr_tokens x) (flat_map next_tokens xs) (mark (codes "]") ∷ r), attr_no_mark x (codes "]") (flat_map next_tokens xs ++ mark (codes "]") ∷ r))
    (then_again _ _ _ _ _ (attr_again x _ k.0 (more_ends xs r))
    (then_again _ _ _ _ _ (more_again xs r (all_pass is_attr xs k.1)) refl))

pub bracket_again : (xs : List Attr) (r : List Lexeme) → AreAttrs xs → bracket (bracket_tokens xs ++ r) ≡ Ok (xs, r)
unfolding bracket bracket_tokens
bracket_again xs r fits =
    simp append_assoc
    (then_again _ _ _ _ _ (expect_again _ _ _)
    (then_again _ _ _ _ _ (attributes_again xs r fits)
    (then_again _ _ _ _ _ (expect_again _ _ _) refl)))
