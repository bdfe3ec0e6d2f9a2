-- What the parser of paths, conditions and attributes answers, step by step.
use Rattle.std.specs.Prelude.{ℕ, Bool, true, false, if◌then◌else◌, is_some, List, [], ◌∷◌, Option, Some, None, codes}
use Rattle.acn_lex.specs.declared.Kind.{Kind}
use Rattle.acn_lex.specs.declared.Kind.TheVariants.{Word, Number, Mark, Bits, Hex}
use Rattle.acn_lex.specs.Lexeme.{Lexeme}
use Rattle.acn_cursor.specs.Steps.{Parser, ◌>>=◌, ◌>>◌, pure, eat, expect, sees, word, number, many, text_of, taken_if}
use Rattle.acn_acn_syntax.specs.ModuleTokens.{is_acn_identifier}
use Rattle.acn_acn_syntax.specs.declared.maps.Signed.{Signed}
use Rattle.acn_acn_syntax.specs.declared.modules.AcnPath.{AcnPath}
use Rattle.acn_acn_syntax.specs.declared.modules.Attr.{Attr}
use Rattle.acn_acn_syntax.specs.declared.modules.Attr.TheVariants as attr
use Rattle.acn_acn_syntax.specs.declared.modules.Condition.{Condition}
use Rattle.acn_acn_syntax.specs.declared.modules.Literal.{Literal}
use Rattle.acn_acn_syntax.specs.declared.modules.Literal.TheVariants as literal
use Rattle.acn_acn_syntax.specs.declared.modules.SizeAttr.{SizeAttr}
use Rattle.acn_acn_syntax.specs.declared.modules.SizeAttr.TheVariants as size
use Rattle.acn_acn_parse.specs.MapReading.{signed}
use Rattle.acn_acn_parse.specs.WordReading.{word_as, attribute_of, encoding_of, endianness_of, alignment_of}
use Rattle.acn_acn_parse.specs.declared.words.Attribute.{Attribute}
use Rattle.acn_acn_parse.specs.declared.words.Attribute.TheVariants as name

-- a token of this kind comes next
abbrev pub has_kind : Kind → List Lexeme → Bool
has_kind kind ts = is_some (text_of kind ts)

abbrev pub has_stop : List Lexeme → Bool
has_stop ts = sees Mark (codes ".") ts

abbrev pub has_comma : List Lexeme → Bool
has_comma ts = sees Mark (codes ",") ts

-- the next name of a path
unfoldable pub next_name : Parser (List ℕ)
next_name = do
  expect Mark (codes ".")
  word is_acn_identifier

unfoldable pub path : Parser AcnPath
path = do
  first ← word is_acn_identifier
  more ← many has_stop next_name
  pure (record { names = first ∷ more })

abbrev pub equals_if : Bool → Parser (Option Signed)
equals_if true = do
  n ← signed
  pure (Some n)
equals_if false = pure None

unfoldable pub equals : Parser (Option Signed)
equals = do
  found ← eat Mark (codes "==")
  equals_if found

unfoldable pub condition : Parser Condition
condition = do
  to ← path
  n ← equals
  pure (record { path = to; equals = n })

-- conditions follow each other
unfoldable pub conditions : Parser (List Condition)
conditions = do
  first ← condition
  more ← many (has_kind Word) condition
  pure (first ∷ more)

abbrev pub number_size : Parser SizeAttr
number_size = do
  n ← number
  pure (size.Number n)

abbrev pub size_if : Bool → Parser SizeAttr
size_if true = pure size.NullTerminated
size_if false = do
  to ← path
  pure (size.Path to)

abbrev pub word_size : Parser SizeAttr
word_size = do
  found ← eat Word (codes "null-terminated")
  size_if found

unfoldable pub size_of : Parser SizeAttr
size_of ts = if has_kind Number ts then number_size ts else word_size ts

abbrev pub literal_if : Option (List ℕ) → Option (List ℕ) → Option Literal
literal_if (Some text) other = Some (literal.Bits text)
literal_if None (Some text) = Some (literal.Hex text)
literal_if None None = None

unfoldable pub literal_of : Parser Literal
literal_of = λ ts. taken_if (literal_if (text_of Bits ts) (text_of Hex ts)) ts

abbrev pub attribute_by : Attribute → Parser Attr
attribute_by name.Size = do
  s ← size_of
  pure (attr.Size s)
attribute_by name.Encoding = do
  e ← word_as encoding_of
  pure (attr.Encoding e)
attribute_by name.Endianness = do
  e ← word_as endianness_of
  pure (attr.Endianness e)
attribute_by name.AlignToNext = do
  a ← word_as alignment_of
  pure (attr.AlignToNext a)
attribute_by name.EncodeValues = pure attr.EncodeValues
attribute_by name.TrueValue = do
  l ← literal_of
  pure (attr.TrueValue l)
attribute_by name.FalseValue = do
  l ← literal_of
  pure (attr.FalseValue l)
attribute_by name.Pattern = do
  l ← literal_of
  pure (attr.Pattern l)
attribute_by name.TerminationPattern = do
  l ← literal_of
  pure (attr.TerminationPattern l)
attribute_by name.PresentWhen = do
  cs ← conditions
  pure (attr.PresentWhen cs)
attribute_by name.Determinant = do
  to ← path
  pure (attr.Determinant to)
attribute_by name.MappingFunction = do
  to ← word is_acn_identifier
  pure (attr.MappingFunction to)

unfoldable pub attribute : Parser Attr
attribute = do
  which ← word_as attribute_of
  attribute_by which

-- the next attribute
unfoldable pub next_attribute : Parser Attr
next_attribute = do
  expect Mark (codes ",")
  attribute

abbrev pub attributes_if : Bool → Parser (List Attr)
attributes_if true = pure []
attributes_if false = do
  first ← attribute
  more ← many has_comma next_attribute
  pure (first ∷ more)

-- attributes joined by commas, which may be none, up to the closing bracket
unfoldable pub attributes : Parser (List Attr)
attributes ts = attributes_if (sees Mark (codes "]") ts) ts

-- attributes between brackets
unfoldable pub bracket : Parser (List Attr)
bracket = do
  expect Mark (codes "[")
  all ← attributes
  expect Mark (codes "]")
  pure all
