-- What the parser of tables answers, step by step.
use Rattle.std.specs.Prelude.{ℕ, Bool, true, false, not, if◌then◌else◌, List, [], ◌∷◌, Option, Some, None, codes}
use Rattle.acn_lex.specs.declared.Kind.TheVariants.{Mark}
use Rattle.acn_lex.specs.Lexeme.{Lexeme}
use Rattle.acn_cursor.specs.Steps.{Parser, ◌>>=◌, ◌>>◌, pure, eat, expect, sees, word, number, many}
use Rattle.acn_acn_syntax.specs.declared.maps.Signed.{Signed}
use Rattle.acn_acn_syntax.specs.declared.maps.MapLine.{MapLine}
use Rattle.acn_acn_syntax.specs.declared.maps.MapTable.{MapTable}
use Rattle.acn_acn_syntax.specs.declared.maps.MapTables.{MapTables}
use Rattle.acn_lex.specs.Words.{is_identifier}

unfoldable pub signed : Parser Signed
signed = do
  negative ← eat Mark (codes "-")
  n ← number
  pure (record { negative = negative; n = n })

abbrev pub last_if : Bool → Parser (Option Signed)
last_if true = do
  s ← signed
  pure (Some s)
last_if false = pure None

unfoldable pub last : Parser (Option Signed)
last = do
  found ← eat Mark (codes "..")
  last_if found

unfoldable pub line : Parser MapLine
line = do
  first ← signed
  to ← last
  expect Mark (codes "=")
  image ← signed
  pure (record { first = first; last = to; image = image })

-- more lines come before the brace
abbrev pub has_line : List Lexeme → Bool
has_line ts = not (sees Mark (codes "}") ts)

unfoldable pub table : Parser MapTable
table = do
  name ← word is_identifier
  expect Mark (codes "{")
  lines ← many has_line line
  expect Mark (codes "}")
  pure (record { name = name; lines = lines })

abbrev pub has_more : List Lexeme → Bool
has_more [] = false
has_more (t ∷ ts) = true

unfoldable pub tables : Parser MapTables
tables = do
  first ← table
  more ← many has_more table
  pure (record { tables = first ∷ more })
