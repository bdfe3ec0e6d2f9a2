-- What the parser of values answers, step by step.
use Rattle.std.specs.Prelude.{ℕ, Bool, true, false, if◌then◌else◌, List, is_some, codes}
use Rattle.acn_lex.specs.declared.Kind.{Kind}
use Rattle.acn_lex.specs.declared.Kind.TheVariants.{Word, Mark, Bits, Hex, Text}
use Rattle.acn_lex.specs.Lexeme.{Lexeme}
use Rattle.acn_cursor.specs.Steps.{Parser, ◌>>=◌, pure, eat, text_of, taken_if, word, number}
use Rattle.acn_lex.specs.Words.{is_identifier}
use Rattle.acn_asn_syntax.specs.declared.values.AsnValue.{AsnValue}
use Rattle.acn_asn_syntax.specs.declared.values.AsnValue.TheVariants as value

-- a sign and a number
unfoldable pub signed : Parser (Bool × ℕ)
signed = do
  negative ← eat Mark (codes "-")
  n ← number
  pure (negative, n)

unfoldable pub signed_value : Parser AsnValue
signed_value = do
  n ← signed
  pure (value.Number n.0 n.1)

unfoldable pub named_value : Parser AsnValue
named_value = do
  name ← word is_identifier
  pure (value.Ref name)

-- a token of this kind comes next
unfoldable pub has : Kind → List Lexeme → Bool
has k ts = is_some (text_of k ts)

-- the text of a literal
unfoldable pub literal : Kind → Parser (List ℕ)
literal k = λ ts. taken_if (text_of k ts) ts

unfoldable pub bits_value : Parser AsnValue
bits_value = do
  text ← literal Bits
  pure (value.Bits text)

unfoldable pub hex_value : Parser AsnValue
hex_value = do
  text ← literal Hex
  pure (value.Hex text)

unfoldable pub text_value : Parser AsnValue
text_value = do
  text ← literal Text
  pure (value.Text text)

-- a literal or a number
unfoldable pub other_value : Parser AsnValue
other_value = λ ts. if has Bits ts then bits_value ts else if has Hex ts then hex_value ts else if has Text ts then text_value ts else signed_value ts

abbrev pub null_if : Bool → Parser AsnValue
null_if true = pure value.Null
null_if false = λ ts. if has Word ts then named_value ts else other_value ts

abbrev pub false_if : Bool → Parser AsnValue
false_if true = pure value.False
false_if false = do
  is_null ← eat Word (codes "NULL")
  null_if is_null

abbrev pub true_if : Bool → Parser AsnValue
true_if true = pure value.True
true_if false = do
  is_false ← eat Word (codes "FALSE")
  false_if is_false

unfoldable pub value_at : Parser AsnValue
value_at = do
  is_true ← eat Word (codes "TRUE")
  true_if is_true
