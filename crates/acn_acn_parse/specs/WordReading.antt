-- What the words of ACN files name.
use Rattle.std.specs.Prelude.{ℕ, Bool, if◌then◌else◌, List, Option, Some, None, option_and_then, codes}
use Rattle.std.specs.List.{list_any}
use Rattle.std.specs.Str.{bytes_eq}
use Rattle.acn_lex.specs.declared.Kind.TheVariants.{Word}
use Rattle.acn_cursor.specs.Steps.{Parser, taken_if, text_of}
use Rattle.acn_acn_syntax.specs.ModuleTokens.{attribute_words}
use Rattle.acn_acn_syntax.specs.declared.modules.Alignment.{Alignment}
use Rattle.acn_acn_syntax.specs.declared.modules.Alignment.TheVariants as align
use Rattle.acn_acn_syntax.specs.declared.modules.Encoding.{Encoding}
use Rattle.acn_acn_syntax.specs.declared.modules.Encoding.TheVariants as encoding
use Rattle.acn_acn_syntax.specs.declared.modules.Endianness.{Endianness}
use Rattle.acn_acn_syntax.specs.declared.modules.Endianness.TheVariants as order
use Rattle.acn_acn_parse.specs.declared.words.Attribute.{Attribute}
use Rattle.acn_acn_parse.specs.declared.words.Attribute.TheVariants.{Size, Encoding as Encoding', Endianness as Endianness', AlignToNext, EncodeValues, TrueValue, FalseValue, Pattern, TerminationPattern, PresentWhen, Determinant, MappingFunction}

-- takes a word that names something
unfoldable pub word_as : {A : Type 0} → (List ℕ → Option A) → Parser A
word_as names = λ ts. taken_if (option_and_then names (text_of Word ts)) ts

abbrev pub width_attribute_of : List ℕ → Option Attribute
width_attribute_of text =
    if bytes_eq text (codes "size") then Some Size
    else (if bytes_eq text (codes "encoding") then Some Encoding'
    else (if bytes_eq text (codes "endianness") then Some Endianness'
    else (if bytes_eq text (codes "align-to-next") then Some AlignToNext
    else (if bytes_eq text (codes "encode-values") then Some EncodeValues else None))))

abbrev pub pattern_attribute_of : List ℕ → Option Attribute
pattern_attribute_of text =
    if bytes_eq text (codes "true-value") then Some TrueValue
    else (if bytes_eq text (codes "false-value") then Some FalseValue
    else (if bytes_eq text (codes "pattern") then Some Pattern
    else (if bytes_eq text (codes "termination-pattern") then Some TerminationPattern else None)))

abbrev pub path_attribute_of : List ℕ → Option Attribute
path_attribute_of text =
    if bytes_eq text (codes "present-when") then Some PresentWhen
    else (if bytes_eq text (codes "determinant") then Some Determinant
    else (if bytes_eq text (codes "mapping-function") then Some MappingFunction else None))

abbrev pub or_else : Option Attribute → Option Attribute → Option Attribute
or_else None other = other
or_else (Some a) other = Some a

-- the attribute that a word names
unfoldable pub attribute_of : List ℕ → Option Attribute
attribute_of text = or_else (width_attribute_of text) (or_else (pattern_attribute_of text) (path_attribute_of text))

abbrev pub encoding_of : List ℕ → Option Encoding
encoding_of text =
    if bytes_eq text (codes "pos-int") then Some encoding.PosInt
    else (if bytes_eq text (codes "twos-complement") then Some encoding.TwosComplement
    else (if bytes_eq text (codes "BCD") then Some encoding.Bcd
    else (if bytes_eq text (codes "ASCII") then Some encoding.Ascii else None)))

abbrev pub endianness_of : List ℕ → Option Endianness
endianness_of text = if bytes_eq text (codes "big") then Some order.Big else (if bytes_eq text (codes "little") then Some order.Little else None)

abbrev pub alignment_of : List ℕ → Option Alignment
alignment_of text =
    if bytes_eq text (codes "byte") then Some align.Byte
    else (if bytes_eq text (codes "word") then Some align.Word else (if bytes_eq text (codes "dword") then Some align.Dword else None))

-- one of the attribute words
abbrev pub is_attribute_word : List ℕ → Bool
is_attribute_word text = list_any (bytes_eq text) attribute_words
