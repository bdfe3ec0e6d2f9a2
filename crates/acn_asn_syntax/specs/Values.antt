-- The tokens of values and ranges, and which are proper: Value (X.680, 17.7) and ValueRange (X.680, 51.4). Clauses are those of X.680 and X.682 (08/2015).
use Rattle.std.specs.Prelude.{ℕ, ◌^◌, Bool, true, ◌&&◌, nat_lt, List, [], ◌∷◌, ◌++◌, Option, Some, None, codes}
use Rattle.std.specs.List.{flat_map}
use Rattle.std.specs.Fmt.{decimal}
use Rattle.acn_lex.specs.declared.Kind.TheVariants.{Word, Number, Bits, Hex, Text, Mark}
use Rattle.acn_lex.specs.Lexeme.{Lexeme}
use Rattle.acn_cursor.specs.Steps.{token, given}
use Rattle.acn_lex.specs.Words.{is_identifier}
use Rattle.acn_asn_syntax.specs.declared.values.AsnValue.{AsnValue}
use Rattle.acn_asn_syntax.specs.declared.values.AsnValue.TheVariants as value
use Rattle.acn_asn_syntax.specs.declared.sets.AsnRange.{AsnRange}

abbrev pub Tokens : Type 0
Tokens = List Lexeme

abbrev pub word : List ℕ → Lexeme
word text = token Word text

abbrev pub mark : List ℕ → Lexeme
mark text = token Mark text

abbrev pub number : ℕ → Lexeme
number n = token Number (decimal n)

-- a number fits where it is below 2 ^ 64
abbrev pub number_fits : ℕ → Bool
number_fits n = nat_lt n (2 ^ 64)

-- a number with its sign: SignedNumber (X.680, 19.1)
unfoldable pub signed_tokens : Bool → ℕ → Tokens
signed_tokens negative n = given negative (mark (codes "-")) ++ number n ∷ []

-- Value: IntegerValue (X.680, 19.9), BooleanValue (18.3), NullValue (24.3), a reference to a value or the identifier of an item (clause 20), a bstring or
-- hstring (22.9, 23.3) and a cstring (41.8)
unfoldable pub value_tokens : AsnValue → Tokens
value_tokens (value.Number negative n) = signed_tokens negative n
value_tokens value.True = word (codes "TRUE") ∷ []
value_tokens value.False = word (codes "FALSE") ∷ []
value_tokens value.Null = word (codes "NULL") ∷ []
value_tokens (value.Ref name) = word name ∷ []
value_tokens (value.Bits text) = token Bits text ∷ []
value_tokens (value.Hex text) = token Hex text ∷ []
value_tokens (value.Text text) = token Text text ∷ []

abbrev pub value_fits : AsnValue → Bool
value_fits (value.Number negative n) = number_fits n
value_fits (value.Ref name) = is_identifier name
value_fits value.True = true
value_fits value.False = true
value_fits value.Null = true
value_fits (value.Bits text) = true
value_fits (value.Hex text) = true
value_fits (value.Text text) = true

-- LowerEndValue or UpperEndValue, MIN and MAX where no value is written (X.680, 51.4.1)
unfoldable pub end_tokens : List ℕ → Option AsnValue → Tokens
end_tokens text None = word text ∷ []
end_tokens text (Some v) = value_tokens v

abbrev pub end_fits : Option AsnValue → Bool
end_fits None = true
end_fits (Some v) = value_fits v

-- ValueRange, LowerEndpoint `..` UpperEndpoint: a `<` leaves its end out (X.680, 51.4)
unfoldable pub range_tokens : AsnRange → Tokens
range_tokens r = end_tokens (codes "MIN") r.low ++ (given r.low_out (mark (codes "<")) ++ (mark (codes "..") ∷ (given r.high_out (mark (codes "<")) ++ end_tokens (codes "MAX") r.high)))

abbrev pub range_fits : AsnRange → Bool
range_fits r = end_fits r.low && end_fits r.high

-- ---- what several rules share

abbrev pub in_parentheses : Tokens → Tokens
in_parentheses ts = mark (codes "(") ∷ (ts ++ mark (codes ")") ∷ [])

abbrev pub in_braces : Tokens → Tokens
in_braces ts = mark (codes "{") ∷ (ts ++ mark (codes "}") ∷ [])

-- items with commas between them
abbrev pub with_commas : {A : Type 0} → (A → Tokens) → List A → Tokens
with_commas tokens [] = []
with_commas tokens (x ∷ xs) = tokens x ++ flat_map (λ x. mark (codes ",") ∷ tokens x) xs

abbrev pub option_tokens : {A : Type 0} → (A → Tokens) → Option A → Tokens
option_tokens tokens None = []
option_tokens tokens (Some a) = tokens a

abbrev pub option_fits : {A : Type 0} → (A → Bool) → Option A → Bool
option_fits fits None = true
option_fits fits (Some a) = fits a
