-- The tokens of mapping tables, and which trees of them are proper. Tables are this profile's own.
use Rattle.std.specs.Prelude.{◌≡◌, ℕ, ◌^◌, ◌<◌, Bool, true, List, [], ◌∷◌, ◌++◌, length, Option, Some, None, IfSome, codes}
use Rattle.std.specs.List.{flat_map, AllByRecursion}
use Rattle.std.specs.Fmt.{decimal}
use Rattle.acn_lex.specs.declared.Kind.TheVariants.{Word, Number, Mark}
use Rattle.acn_lex.specs.Lexeme.{Lexeme}
use Rattle.acn_lex.specs.Words.{is_identifier}
use Rattle.acn_cursor.specs.Steps.{token, given}
use Rattle.acn_acn_syntax.specs.declared.maps.Signed.{Signed}
use Rattle.acn_acn_syntax.specs.declared.maps.MapLine.{MapLine}
use Rattle.acn_acn_syntax.specs.declared.maps.MapTable.{MapTable}
use Rattle.acn_acn_syntax.specs.declared.maps.MapTables.{MapTables}

unfoldable pub signed_tokens : Signed → List Lexeme
signed_tokens s = given s.negative (token Mark (codes "-")) ++ token Number (decimal s.n) ∷ []

unfoldable pub last_tokens : Option Signed → List Lexeme
last_tokens None = []
last_tokens (Some s) = token Mark (codes "..") ∷ signed_tokens s

-- a number, or the numbers from one to another, and its image
unfoldable pub line_tokens : MapLine → List Lexeme
line_tokens l = signed_tokens l.first ++ last_tokens l.last ++ token Mark (codes "=") ∷ signed_tokens l.image

unfoldable pub table_tokens : MapTable → List Lexeme
table_tokens t = token Word t.name ∷ token Mark (codes "{") ∷ flat_map line_tokens t.lines ++ token Mark (codes "}") ∷ []

abbrev pub tokens_of : MapTables → List Lexeme
tokens_of t = flat_map table_tokens t.tables

abbrev pub IsSigned : Signed → Type 0
IsSigned s = s.n < 2 ^ 64

pub record IsLine (l : MapLine) : Type 0 where
  pub first : IsSigned l.first
  pub last : IfSome l.last IsSigned
  pub image : IsSigned l.image

pub record IsTable (t : MapTable) : Type 0 where
  pub name : is_identifier t.name ≡ true
  pub lines : AllByRecursion IsLine t.lines

-- A proper tree: there is a table, the names of tables are identifiers (X.680, 12.3), and numbers are below 2 ^ 64.
pub record IsProper (t : MapTables) : Type 0 where
  pub some : 0 < length t.tables
  pub tables : AllByRecursion IsTable t.tables
