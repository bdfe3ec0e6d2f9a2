-- What the parsers of tags and of types without types in them answer, step by step.
use Rattle.std.specs.Prelude.{ℕ, Bool, true, false, List, Option, Some, None, codes}
use Rattle.acn_lex.specs.declared.Kind.TheVariants.{Word, Mark}
use Rattle.acn_cursor.specs.Steps.{Parser, ◌>>=◌, ◌>>◌, pure, eat, expect, word, number}
use Rattle.acn_lex.specs.Words.{is_identifier, is_reference}
use Rattle.acn_asn_syntax.specs.declared.types.TagClass.{TagClass}
use Rattle.acn_asn_syntax.specs.declared.types.TagClass.TheVariants as class
use Rattle.acn_asn_syntax.specs.declared.types.TagMode.{TagMode}
use Rattle.acn_asn_syntax.specs.declared.types.TagMode.TheVariants as mode
use Rattle.acn_asn_syntax.specs.declared.types.Tag.{Tag}
use Rattle.acn_asn_syntax.specs.declared.types.Named.{Named}
use Rattle.acn_asn_syntax.specs.declared.types.Item.{Item}
use Rattle.acn_asn_syntax.specs.declared.types.Rest.{Rest}
use Rattle.acn_asn_syntax.specs.declared.types.Rest.TheVariants as rest
use Rattle.acn_asn_syntax.specs.declared.types.AsnBase.{AsnBase}
use Rattle.acn_asn_syntax.specs.declared.types.AsnBase.TheVariants as base
use Rattle.acn_asn_types.specs.Values.{signed, value_at}
use Rattle.acn_asn_types.specs.Lists.{listed}

-- ---- tags

abbrev pub private_if : Bool → Parser (Option TagClass)
private_if true = pure (Some class.Private)
private_if false = pure None

abbrev pub application_if : Bool → Parser (Option TagClass)
application_if true = pure (Some class.Application)
application_if false = do
  has ← eat Word (codes "PRIVATE")
  private_if has

abbrev pub universal_if : Bool → Parser (Option TagClass)
universal_if true = pure (Some class.Universal)
universal_if false = do
  has ← eat Word (codes "APPLICATION")
  application_if has

unfoldable pub class_at : Parser (Option TagClass)
class_at = do
  has ← eat Word (codes "UNIVERSAL")
  universal_if has

abbrev pub explicit_if : Bool → Parser (Option TagMode)
explicit_if true = pure (Some mode.Explicit)
explicit_if false = pure None

abbrev pub implicit_if : Bool → Parser (Option TagMode)
implicit_if true = pure (Some mode.Implicit)
implicit_if false = do
  has ← eat Word (codes "EXPLICIT")
  explicit_if has

unfoldable pub mode_at : Parser (Option TagMode)
mode_at = do
  has ← eat Word (codes "IMPLICIT")
  implicit_if has

-- behind the opening bracket
unfoldable pub tag_in : Parser Tag
tag_in = do
  class ← class_at
  n ← number
  expect Mark (codes "]")
  mode ← mode_at
  pure (record { class = class; number = n; mode = mode })

abbrev pub tag_if : Bool → Parser (Option Tag)
tag_if true = do
  t ← tag_in
  pure (Some t)
tag_if false = pure None

unfoldable pub tag_at : Parser (Option Tag)
tag_at = do
  has ← eat Mark (codes "[")
  tag_if has

-- ---- named numbers and items

-- behind the opening parenthesis
unfoldable pub grouped : Parser (Bool × ℕ)
grouped = do
  n ← signed
  expect Mark (codes ")")
  pure n

unfoldable pub named : Parser Named
named = do
  name ← word is_identifier
  expect Mark (codes "(")
  n ← grouped
  pure (record { name = name; negative = n.0; number = n.1 })

abbrev pub number_if : Bool → Parser (Option (Bool × ℕ))
number_if true = do
  n ← grouped
  pure (Some n)
number_if false = pure None

unfoldable pub item_number : Parser (Option (Bool × ℕ))
item_number = do
  has ← eat Mark (codes "(")
  number_if has

unfoldable pub item : Parser Item
item = do
  name ← word is_identifier
  n ← item_number
  pure (record { name = name; number = n })

-- ---- what stands behind a component

abbrev pub default_if : Bool → Parser Rest
default_if true = do
  v ← value_at
  pure (rest.Default v)
default_if false = pure rest.Required

abbrev pub optional_if : Bool → Parser Rest
optional_if true = pure rest.Optional
optional_if false = do
  has ← eat Word (codes "DEFAULT")
  default_if has

unfoldable pub rest_at : Parser Rest
rest_at = do
  has ← eat Word (codes "OPTIONAL")
  optional_if has

-- ---- types without types in them

abbrev pub named_if : Bool → Parser AsnBase
named_if true = do
  ns ← listed named
  expect Mark (codes "}")
  pure (base.Integer (Some ns))
named_if false = pure (base.Integer None)

-- behind INTEGER
unfoldable pub integer_at : Parser AsnBase
integer_at = do
  has ← eat Mark (codes "{")
  named_if has

-- behind ENUMERATED
unfoldable pub enumerated_at : Parser AsnBase
enumerated_at = do
  expect Mark (codes "{")
  items ← listed item
  expect Mark (codes "}")
  pure (base.Enumerated items)

abbrev pub dot_if : List ℕ → Bool → Parser AsnBase
dot_if first true = do
  name ← word is_reference
  pure (base.Ref (Some first) name)
dot_if first false = pure (base.Ref None first)

unfoldable pub reference_at : Parser AsnBase
reference_at = do
  first ← word is_reference
  has ← eat Mark (codes ".")
  dot_if first has

abbrev pub enumerated_if : Bool → Parser AsnBase
enumerated_if true = enumerated_at
enumerated_if false = reference_at

abbrev pub integer_if : Bool → Parser AsnBase
integer_if true = integer_at
integer_if false = do
  has ← eat Word (codes "ENUMERATED")
  enumerated_if has

unfoldable pub number_base : Parser AsnBase
number_base = do
  has ← eat Word (codes "INTEGER")
  integer_if has

abbrev pub bit_if : Bool → Parser AsnBase
bit_if true = do
  expect Word (codes "STRING")
  pure base.BitString
bit_if false = number_base

abbrev pub octet_if : Bool → Parser AsnBase
octet_if true = do
  expect Word (codes "STRING")
  pure base.OctetString
octet_if false = do
  has ← eat Word (codes "BIT")
  bit_if has

unfoldable pub string_base : Parser AsnBase
string_base = do
  has ← eat Word (codes "OCTET")
  octet_if has

abbrev pub characters_if : Bool → Parser AsnBase
characters_if true = pure base.Ia5String
characters_if false = string_base

abbrev pub null_base_if : Bool → Parser AsnBase
null_base_if true = pure base.Null
null_base_if false = do
  has ← eat Word (codes "IA5String")
  characters_if has

abbrev pub boolean_if : Bool → Parser AsnBase
boolean_if true = pure base.Boolean
boolean_if false = do
  has ← eat Word (codes "NULL")
  null_base_if has

unfoldable pub simple_base : Parser AsnBase
simple_base = do
  has ← eat Word (codes "BOOLEAN")
  boolean_if has
