-- The steps that every parser is made of. What a parser reads is a list of tokens.
use Rattle.std.specs.Prelude.{◌≡◌, ℕ, zero, suc, Bool, true, false, ◌&&◌, if◌then◌else◌, List, [], ◌∷◌, ◌++◌, length, Option, Some, None, option_and_then, Result, Ok, Err}
use Rattle.std.specs.Str.{bytes_eq}
use Rattle.acn_lex.specs.declared.Kind.{Kind}
use Rattle.acn_lex.specs.declared.Kind.TheVariants.{Word, Number}
use Rattle.acn_lex.specs.Number.{number_in}
use Rattle.acn_lex.specs.Lexeme.{Lexeme, same_kind}
use Rattle.acn_cursor.specs.declared.stop.Stop.{Stop}
use Rattle.acn_cursor.specs.declared.stop.Stop.TheVariants.{Refused, NoMemory}

-- what was read and the tokens that are left, or how many tokens were left where reading stopped
abbrev pub Outcome : Type 0 → Type 0
Outcome A = Result (A × List Lexeme) ℕ

abbrev pub Parser : Type 0 → Type 0
Parser A = List Lexeme → Outcome A

abbrev pub and_then : {A B : Type 0} → Outcome A → (A → Parser B) → Outcome B
and_then (Err left) f = Err left
and_then (Ok p) f = f p.0 p.1

infixl 10 ◌>>=◌
abbrev pub ◌>>=◌ : {A B : Type 0} → Parser A → (A → Parser B) → Parser B
p >>= f = λ ts. and_then (p ts) f

infixl 10 ◌>>◌
abbrev pub ◌>>◌ : {A B : Type 0} → Parser A → Parser B → Parser B
p >> q = p >>= (λ _. q)

abbrev pub pure : {A : Type 0} → A → Parser A
pure a = λ ts. Ok (a, ts)

abbrev pub refuse : {A : Type 0} → Parser A
refuse = λ ts. Err (length ts)

abbrev pub token : Kind → List ℕ → Lexeme
token k text = record { kind = k; text = text }

-- a token that may be written
abbrev pub given : Bool → Lexeme → List Lexeme
given true t = t ∷ []
given false t = []

-- a token of this kind and text comes next
unfoldable pub sees : Kind → List ℕ → List Lexeme → Bool
sees k text [] = false
sees k text (t ∷ ts) = same_kind t.kind k && bytes_eq t.text text

-- the tokens behind the next
abbrev pub behind : List Lexeme → List Lexeme
behind [] = []
behind (t ∷ ts) = ts

unfoldable pub after : Kind → List ℕ → List Lexeme → List Lexeme
after k text ts = if sees k text ts then behind ts else ts

-- takes that token, if it comes next
unfoldable pub eat : Kind → List ℕ → Parser Bool
eat k text = λ ts. Ok (sees k text ts, after k text ts)

unfoldable pub expect : Kind → List ℕ → Parser (Unit {0})
expect k text = λ ts. if sees k text ts then Ok (tt, behind ts) else Err (length ts)

-- the text of the next token, if it is of this kind
unfoldable pub text_of : Kind → List Lexeme → Option (List ℕ)
text_of k [] = None
text_of k (t ∷ ts) = if same_kind t.kind k then Some t.text else None

-- takes a word with a text that passes
abbrev pub taken_if : {A : Type 0} → Option A → Parser A
taken_if None = refuse
taken_if (Some a) = λ ts. Ok (a, behind ts)

abbrev pub passing : (List ℕ → Bool) → List ℕ → Option (List ℕ)
passing test text = if test text then Some text else None

unfoldable pub word : (List ℕ → Bool) → Parser (List ℕ)
word test = λ ts. taken_if (option_and_then (passing test) (text_of Word ts)) ts

unfoldable pub number : Parser ℕ
number = λ ts. taken_if (option_and_then number_in (text_of Number ts)) ts

-- Items while a test of what is left says so. The number bounds the turns.
abbrev pub repeat : {A : Type 0} → (List Lexeme → Bool) → Parser A → ℕ → Parser (List A)
repeat goes item zero ts = Ok ([], ts)
repeat goes item (suc n) ts = if goes ts then and_then (item ts) (λ x. repeat goes item n >>= (λ xs. pure (x ∷ xs))) else Ok ([], ts)

-- what was read before, and then this
abbrev pub with_front : {A : Type 0} → List A → Outcome (List A) → Outcome (List A)
with_front front (Err left) = Err left
with_front front (Ok p) = Ok (front ++ p.0, p.1)

-- each turn takes a token, so that the count of tokens is enough
abbrev pub many : {A : Type 0} → (List Lexeme → Bool) → Parser A → Parser (List A)
many goes item = λ ts. repeat goes item (length ts) ts

-- What a function that parses ensures: the parser's outcome, unless memory fails. Of the tokens that are left after a failure it says nothing.
abbrev pub Fails : {A : Type 0} → Result A ℕ → Stop → Type 0
Fails outcome (Refused left) = outcome ≡ Err left
Fails outcome NoMemory = Unit {0}

abbrev pub Reads : {A : Type 0} → Outcome A → Result A Stop → List Lexeme → Type 0
Reads outcome (Ok a) new = outcome ≡ Ok (a, new)
Reads outcome (Err e) new = Fails outcome e

-- What a function that parses and takes no memory ensures: the parser's outcome.
abbrev pub FailsFreely : {A : Type 0} → Result A ℕ → Stop → Type 0
FailsFreely outcome (Refused left) = outcome ≡ Err left
FailsFreely outcome NoMemory = ⊥

abbrev pub ReadsFreely : {A : Type 0} → Outcome A → Result A Stop → List Lexeme → Type 0
ReadsFreely outcome (Ok a) new = outcome ≡ Ok (a, new)
ReadsFreely outcome (Err e) new = FailsFreely outcome e

-- the answer of a parser that has to take all tokens
abbrev pub is_whole : {A : Type 0} → Outcome A → Result A ℕ
is_whole (Err left) = Err left
is_whole (Ok (a, [])) = Ok a
is_whole (Ok (a, t ∷ ts)) = Err (length (t ∷ ts))

abbrev pub Whole : {A : Type 0} → Outcome A → Result A Stop → Type 0
Whole outcome (Ok a) = is_whole outcome ≡ Ok a
Whole outcome (Err e) = Fails (is_whole outcome) e
