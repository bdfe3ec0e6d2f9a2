-- What a word that names something is, and that it is read again.
use Rattle.std.proofs.Common.{◌≡◌, ℕ, Bool, true, false, cond, List, [], ◌∷◌, ◌++◌, Option, Some, None, refl, sym, ap, ◌∙◌, ◌&&◌, ◌||◌, not}
use Rattle.std.specs.Prelude.{option_and_then, codes, if◌then◌else◌, is_some, Ok}
use Rattle.std.specs.List.{list_any, list_all, AllByRecursion}
use Rattle.std.specs.Str.{bytes_eq}
use Rattle.std.proofs.lemmas.Slice.Eq.{bytes_eq-Decides}
use Rattle.acn_lex.specs.declared.Kind.TheVariants.{Word}
use Rattle.acn_lex.specs.Lexeme.{Lexeme}
use Rattle.acn_cursor.specs.Steps.{token, taken_if, text_of}
use Rattle.acn_lex.specs.Words.{is_identifier}
use Rattle.acn_cursor.proofs.Laws.{ap2, taken_found, then_some, text_of_found, text_of_again}
use Rattle.acn_acn_syntax.specs.ModuleTokens.{encoding_word, order_word, align_word, attribute_words, is_acn_identifier}
use Rattle.acn_acn_syntax.specs.declared.modules.Alignment.{Alignment}
use Rattle.acn_acn_syntax.specs.declared.modules.Alignment.TheVariants as align
use Rattle.acn_acn_syntax.specs.declared.modules.Encoding.{Encoding}
use Rattle.acn_acn_syntax.specs.declared.modules.Encoding.TheVariants as encoding
use Rattle.acn_acn_syntax.specs.declared.modules.Endianness.{Endianness}
use Rattle.acn_acn_syntax.specs.declared.modules.Endianness.TheVariants as order
use Rattle.acn_acn_parse.specs.WordReading.{word_as, attribute_of, width_attribute_of, pattern_attribute_of, path_attribute_of, or_else, encoding_of, endianness_of, alignment_of}
use Rattle.acn_acn_parse.specs.declared.words.Attribute.{Attribute}
use Rattle.acn_acn_parse.specs.declared.words.Attribute.TheVariants as name
use Rattle.std.proofs.lemmas.Bool.{and_parts, not-true}

pub word_as_found : {A : Type 0} (names : List ℕ → Option A) (print : A → List ℕ) → ((text : List ℕ) (a : A) → names text ≡ Some a → text ≡ print a)
    → (ts : List Lexeme) (a : A) (r : List Lexeme) → word_as names ts ≡ Ok (a, r) → ts ≡ token Word (print a) ∷ r
unfolding word_as
word_as_found names print law ts a r e =
    let t = taken_found (option_and_then names (text_of Word ts)) ts a r e in
    let s = then_some (text_of Word ts) names a t.0 in
    text_of_found Word ts s.0 s.1 ∙ ap2 (λ (x : List ℕ) (b : List Lexeme). token Word x ∷ b) (law s.0 a s.2) t.1

pub word_as_again : {A : Type 0} (names : List ℕ → Option A) (text : List ℕ) (a : A) (r : List Lexeme) → names text ≡ Some a → word_as names (token Word text ∷ r) ≡ Ok (a, r)
unfolding word_as
word_as_again names text a r e = rw (text_of_again Word text r, e) refl

-- one word, or what the others name
named : {A : Type 0} (print : A → List ℕ) (text word : List ℕ) (x a : A) (rest : Option A) → print x ≡ word → (rest ≡ Some a → text ≡ print a) → cond (bytes_eq text word) (Some x) rest ≡ Some a → text ≡ print a
named {A} print text word x a rest p more e = go (bytes_eq text word) refl e
  where
    go : (b : Bool) → bytes_eq text word ≡ b → cond b (Some x) rest ≡ Some a → text ≡ print a
    go true h k = let same : x ≡ a = cc in (bytes_eq-Decides text word).0 h ∙ sym p ∙ ap print same
    go false h k = more k

none : {A : Type 0} {P : Type 0} (a : A) → None ≡ Some a → P
none a e = absurd cc

-- the word of an attribute
abbrev pub name_word : Attribute → List ℕ
name_word name.Size = codes "size"
name_word name.Encoding = codes "encoding"
name_word name.Endianness = codes "endianness"
name_word name.AlignToNext = codes "align-to-next"
name_word name.EncodeValues = codes "encode-values"
name_word name.TrueValue = codes "true-value"
name_word name.FalseValue = codes "false-value"
name_word name.Pattern = codes "pattern"
name_word name.TerminationPattern = codes "termination-pattern"
name_word name.PresentWhen = codes "present-when"
name_word name.Determinant = codes "determinant"
name_word name.MappingFunction = codes "mapping-function"

width_named : (text : List ℕ) (a : Attribute) → width_attribute_of text ≡ Some a → text ≡ name_word a
width_named text a =
    named name_word text (codes "size") name.Size a _ refl
    (named name_word text (codes "encoding") name.Encoding a _ refl
    (named name_word text (codes "endianness") name.Endianness a _ refl
    (named name_word text (codes "align-to-next") name.AlignToNext a _ refl
    (named name_word text (codes "encode-values") name.EncodeValues a _ refl (none a)))))

pattern_named : (text : List ℕ) (a : Attribute) → pattern_attribute_of text ≡ Some a → text ≡ name_word a
pattern_named text a =
    named name_word text (codes "true-value") name.TrueValue a _ refl
    (named name_word text (codes "false-value") name.FalseValue a _ refl
    (named name_word text (codes "pattern") name.Pattern a _ refl
    (named name_word text (codes "termination-pattern") name.TerminationPattern a _ refl (none a))))

path_named : (text : List ℕ) (a : Attribute) → path_attribute_of text ≡ Some a → text ≡ name_word a
path_named text a =
    named name_word text (codes "present-when") name.PresentWhen a _ refl
    (named name_word text (codes "determinant") name.Determinant a _ refl
    (named name_word text (codes "mapping-function") name.MappingFunction a _ refl (none a)))

either_of : {P : Type 0} (x y : Option Attribute) (a : Attribute) → (x ≡ Some a → P) → (y ≡ Some a → P) → or_else x y ≡ Some a → P
either_of None y a f g e = g e
either_of (Some b) y a f g e = f e

pub attribute_named : (text : List ℕ) (a : Attribute) → attribute_of text ≡ Some a → text ≡ name_word a
unfolding attribute_of
attribute_named text a = either_of _ _ a (width_named text a) (either_of _ _ a (pattern_named text a) (path_named text a))

pub attribute_again : (a : Attribute) → attribute_of (name_word a) ≡ Some a
unfolding attribute_of
attribute_again name.Size = refl
attribute_again name.Encoding = refl
attribute_again name.Endianness = refl
attribute_again name.AlignToNext = refl
attribute_again name.EncodeValues = refl
attribute_again name.TrueValue = refl
attribute_again name.FalseValue = refl
attribute_again name.Pattern = refl
attribute_again name.TerminationPattern = refl
attribute_again name.PresentWhen = refl
attribute_again name.Determinant = refl
attribute_again name.MappingFunction = refl

pub encoding_named : (text : List ℕ) (a : Encoding) → encoding_of text ≡ Some a → text ≡ encoding_word a
unfolding encoding_word
encoding_named text a =
    named encoding_word text (codes "pos-int") encoding.PosInt a _ refl
    (named encoding_word text (codes "twos-complement") encoding.TwosComplement a _ refl
    (named encoding_word text (codes "BCD") encoding.Bcd a _ refl (named encoding_word text (codes "ASCII") encoding.Ascii a _ refl (none a))))

pub encoding_again : (a : Encoding) → encoding_of (encoding_word a) ≡ Some a
unfolding encoding_word
encoding_again encoding.PosInt = refl
encoding_again encoding.TwosComplement = refl
encoding_again encoding.Bcd = refl
encoding_again encoding.Ascii = refl

pub order_named : (text : List ℕ) (a : Endianness) → endianness_of text ≡ Some a → text ≡ order_word a
unfolding order_word
order_named text a = named order_word text (codes "big") order.Big a _ refl (named order_word text (codes "little") order.Little a _ refl (none a))

pub order_again : (a : Endianness) → endianness_of (order_word a) ≡ Some a
unfolding order_word
order_again order.Big = refl
order_again order.Little = refl

pub align_named : (text : List ℕ) (a : Alignment) → alignment_of text ≡ Some a → text ≡ align_word a
unfolding align_word
align_named text a =
    named align_word text (codes "byte") align.Byte a _ refl
    (named align_word text (codes "word") align.Word a _ refl (named align_word text (codes "dword") align.Dword a _ refl (none a)))

pub align_again : (a : Alignment) → alignment_of (align_word a) ≡ Some a
unfolding align_word
align_again align.Byte = refl
align_again align.Word = refl
align_again align.Dword = refl

-- ---- tests of lists

pub pass_all : {A : Type 0} (test : A → Bool) (xs : List A) → AllByRecursion (λ x. test x ≡ true) xs → list_all test xs ≡ true
pass_all test [] h = refl
pass_all test (x ∷ xs) h = rw (h.0, pass_all test xs h.1) refl

pub all_pass : {A : Type 0} (test : A → Bool) (xs : List A) → list_all test xs ≡ true → AllByRecursion (λ x. test x ≡ true) xs
all_pass test [] h = tt
all_pass test (x ∷ xs) h = (let k = and_parts (test x) (list_all test xs) h in (k.0, all_pass test xs k.1))

-- ---- an identifier is no attribute word

none_passes : (p : List ℕ → Bool) (before : List (List ℕ)) (x : List ℕ) (after : List (List ℕ)) → list_any p (before ++ x ∷ after) ≡ false → p x ≡ false
none_passes p [] x after h = (go (p x) h)
  where
    go : (b : Bool) → b || list_any p after ≡ false → b ≡ false
    go true e = absurd cc
    go false e = refl
none_passes p (y ∷ before) x after h = none_passes p before x after (go (p y) h)
  where
    go : (b : Bool) → b || list_any p (before ++ x ∷ after) ≡ false → list_any p (before ++ x ∷ after) ≡ false
    go true e = absurd cc
    go false e = e

pub not_terminated : (text : List ℕ) → is_acn_identifier text ≡ true → bytes_eq text (codes "null-terminated") ≡ false
unfolding is_acn_identifier attribute_words
not_terminated text h =
    let k = and_parts (is_identifier text) (not (list_any (bytes_eq text) attribute_words)) h in
    none_passes (bytes_eq text)
    (codes "size" ∷ codes "encoding" ∷ codes "endianness" ∷ codes "align-to-next" ∷ codes "encode-values" ∷ codes "true-value"
    ∷ codes "false-value" ∷ codes "pattern" ∷ codes "termination-pattern" ∷ codes "present-when" ∷ codes "determinant" ∷ codes "mapping-function" ∷ [])
    (codes "null-terminated")
    (codes "pos-int" ∷ codes "twos-complement" ∷ codes "BCD" ∷ codes "ASCII" ∷ codes "big" ∷ codes "little" ∷ codes "byte" ∷ codes "word" ∷ codes "dword" ∷ [])
    (not-true _ k.1)
