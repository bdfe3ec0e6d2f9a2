-- What the parsers of what stands before a module's assignments answer, step by step.
use Rattle.std.specs.Prelude.{ℕ, Bool, true, false, not, if◌then◌else◌, List, [], ◌∷◌, length, Option, Some, None, codes, Ok}
use Rattle.acn_lex.specs.declared.Kind.TheVariants.{Word, Mark}
use Rattle.acn_lex.specs.Lexeme.{Lexeme}
use Rattle.acn_cursor.specs.Steps.{Parser, ◌>>=◌, ◌>>◌, pure, eat, expect, sees, text_of, word, number, many}
use Rattle.acn_lex.specs.Words.{is_identifier, is_reference}
use Rattle.acn_asn_syntax.specs.declared.modules.OidPart.{OidPart}
use Rattle.acn_asn_syntax.specs.declared.modules.OidPart.TheVariants as part
use Rattle.acn_asn_syntax.specs.declared.modules.Oid.{Oid}
use Rattle.acn_asn_syntax.specs.declared.modules.Tagging.{Tagging}
use Rattle.acn_asn_syntax.specs.declared.modules.Tagging.TheVariants as tagging
use Rattle.acn_asn_syntax.specs.declared.modules.Exports.{Exports}
use Rattle.acn_asn_syntax.specs.declared.modules.Exports.TheVariants as exports
use Rattle.acn_asn_syntax.specs.declared.modules.Import.{Import}
use Rattle.acn_asn_syntax.specs.Modules.{is_name}
use Rattle.acn_asn_parse.specs.declared.headers.ModuleHead.{ModuleHead}
use Rattle.acn_asn_types.specs.Values.{has, literal}
use Rattle.acn_asn_types.specs.Lists.{listed}

-- ---- object identifiers

unfoldable pub grouped_part : Parser OidPart
grouped_part = do
  n ← number
  expect Mark (codes ")")
  pure (part.Grouped n)

unfoldable pub word_part : Parser OidPart
word_part = do
  text ← literal Word
  pure (part.Word text)

unfoldable pub number_part : Parser OidPart
number_part = do
  n ← number
  pure (part.Number n)

abbrev pub group_if : Bool → Parser OidPart
group_if true = grouped_part
group_if false = λ ts. if has Word ts then word_part ts else number_part ts

unfoldable pub oid_part : Parser OidPart
oid_part = do
  is_grouped ← eat Mark (codes "(")
  group_if is_grouped

unfoldable pub has_part : List Lexeme → Bool
has_part ts = not (sees Mark (codes "}") ts)

-- behind the opening brace
unfoldable pub oid_in : Parser (Option Oid)
oid_in = do
  parts ← many has_part oid_part
  expect Mark (codes "}")
  pure (Some (record { parts = parts }))

abbrev pub oid_if : Bool → Parser (Option Oid)
oid_if true = oid_in
oid_if false = pure None

unfoldable pub oid_at : Parser (Option Oid)
oid_at = do
  has ← eat Mark (codes "{")
  oid_if has

-- ---- what stands before the assignments

unfoldable pub with_tags : Tagging → Parser (Option Tagging)
with_tags t = do
  expect Word (codes "TAGS")
  pure (Some t)

abbrev pub automatic_if : Bool → Parser (Option Tagging)
automatic_if true = with_tags tagging.Automatic
automatic_if false = pure None

abbrev pub implicit_if : Bool → Parser (Option Tagging)
implicit_if true = with_tags tagging.Implicit
implicit_if false = do
  has ← eat Word (codes "AUTOMATIC")
  automatic_if has

abbrev pub explicit_if : Bool → Parser (Option Tagging)
explicit_if true = with_tags tagging.Explicit
explicit_if false = do
  has ← eat Word (codes "IMPLICIT")
  implicit_if has

unfoldable pub tagging_at : Parser (Option Tagging)
tagging_at = do
  has ← eat Word (codes "EXPLICIT")
  explicit_if has

unfoldable pub head_at : Parser ModuleHead
head_at = do
  name ← word is_reference
  oid ← oid_at
  expect Word (codes "DEFINITIONS")
  tags ← tagging_at
  pure (record { name = name; oid = oid; tags = tags })

unfoldable pub is_end : List Lexeme → Bool
is_end ts = sees Mark (codes ";") ts

-- names before a semicolon
unfoldable pub names_at : Parser (List (List ℕ))
names_at = λ ts. if is_end ts then Ok ([], ts) else listed (word is_name) ts

unfoldable pub all_exports : Parser (Option Exports)
all_exports = do
  expect Mark (codes ";")
  pure (Some exports.All)

unfoldable pub some_exports : Parser (Option Exports)
some_exports = do
  names ← names_at
  expect Mark (codes ";")
  pure (Some (exports.Some names))

abbrev pub all_if : Bool → Parser (Option Exports)
all_if true = all_exports
all_if false = some_exports

abbrev pub exports_if : Bool → Parser (Option Exports)
exports_if true = do
  is_all ← eat Word (codes "ALL")
  all_if is_all
exports_if false = pure None

unfoldable pub exports_at : Parser (Option Exports)
exports_at = do
  has ← eat Word (codes "EXPORTS")
  exports_if has

unfoldable pub import_at : Parser Import
import_at = do
  names ← listed (word is_name)
  expect Word (codes "FROM")
  from ← word is_reference
  oid ← oid_at
  pure (record { names = names; «module» = from; oid = oid })

unfoldable pub has_import : List Lexeme → Bool
has_import ts = not (is_end ts)

unfoldable pub imports_in : Parser (Option (List Import))
imports_in = do
  found ← many has_import import_at
  expect Mark (codes ";")
  pure (Some found)

abbrev pub imports_if : Bool → Parser (Option (List Import))
imports_if true = imports_in
imports_if false = pure None

unfoldable pub imports_at : Parser (Option (List Import))
imports_at = do
  has ← eat Word (codes "IMPORTS")
  imports_if has
