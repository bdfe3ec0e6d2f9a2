-- Items with commas between them.
use Rattle.std.specs.Prelude.{Bool, List, [], ◌∷◌, codes}
use Rattle.acn_lex.specs.declared.Kind.TheVariants.{Mark}
use Rattle.acn_lex.specs.Lexeme.{Lexeme}
use Rattle.acn_cursor.specs.Steps.{Parser, ◌>>=◌, ◌>>◌, with_front, expect, sees, many}

unfoldable pub has_comma : List Lexeme → Bool
has_comma ts = sees Mark (codes ",") ts

-- a comma and an item
unfoldable pub next : {A : Type 0} → Parser A → Parser A
next item = do
  expect Mark (codes ",")
  item

-- the items behind the first
unfoldable pub more_of : {A : Type 0} → Parser A → A → Parser (List A)
more_of item first = λ ts. with_front (first ∷ []) (many has_comma (next item) ts)

-- at least one item
unfoldable pub listed : {A : Type 0} → Parser A → Parser (List A)
listed item = do
  first ← item
  more_of item first
