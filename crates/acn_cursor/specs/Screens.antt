-- What is looked for in tokens before a grammar is asked: words that are left out, and too deep nesting.
use Rattle.std.specs.Prelude.{ℕ, zero, suc, ◌+◌, Bool, ◌||◌, not, nat_lt, if◌then◌else◌, List, [], ◌∷◌, ◌++◌, length, map, reverse, Option, Some, None, codes}
use Rattle.std.specs.List.{list_any, count_by, take_while}
use Rattle.acn_lex.specs.declared.Kind.{Kind}
use Rattle.acn_lex.specs.declared.Kind.TheVariants.{Word, Mark}
use Rattle.acn_lex.specs.Lexeme.{Lexeme}
use Rattle.acn_cursor.specs.declared.level.TheConstants.{MOST_LEVEL}
use Rattle.acn_cursor.specs.Steps.{sees, token}

-- The number of the first token of which the test says so. It is told the tokens before it, and the token.
abbrev pub first_from : (List Lexeme → Lexeme → Bool) → List Lexeme → List Lexeme → Option ℕ
first_from test front [] = None
first_from test front (t ∷ ts) = if test front t then Some (length front) else first_from test (front ++ t ∷ []) ts

-- a token of this kind and text
abbrev pub is_token : Kind → List ℕ → Lexeme → Bool
is_token kind text t = sees kind text (t ∷ [])

-- ---- words that are left out

-- words and marks as tokens
abbrev pub tokens_of : List (List ℕ) → List (List ℕ) → List Lexeme
tokens_of words marks = map (token Word) words ++ map (token Mark) marks

-- the token is one of these words
abbrev pub is_among : List Lexeme → Lexeme → Bool
is_among words t = list_any (λ w. is_token w.kind w.text t) words

-- the number of the first token that is one of these words
unfoldable pub first_left_out : List Lexeme → List Lexeme → Option ℕ
first_left_out words = first_from (λ _ t. is_among words t) []

-- ---- levels

abbrev pub is_mark : List ℕ → Lexeme → Bool
is_mark text = is_token Mark text

unfoldable pub opens : Lexeme → Bool
opens t = is_mark (codes "{") t || is_mark (codes "(") t

-- a parenthesis that closes
unfoldable pub shuts : Lexeme → Bool
shuts = is_mark (codes ")")

unfoldable pub closes : Lexeme → Bool
closes t = is_mark (codes "}") t || shuts t

unfoldable pub is_of : Lexeme → Bool
is_of = is_token Word (codes "OF")

-- 1 for yes
abbrev pub count_of : Bool → ℕ
count_of b = if b then 1 else 0

-- the marks behind which the words OF are counted anew
unfoldable pub restarts : Lexeme → Bool
restarts t = is_mark (codes "::=") t || is_mark (codes ",") t || is_mark (codes "{") t || is_mark (codes "}") t

-- of the marks that open in these tokens some are still open
abbrev pub is_inside : List Lexeme → Bool
is_inside ts = nat_lt (count_by closes ts) (count_by opens ts)

-- The tokens before a place, the nearest first, without parentheses that are closed and what stands in them. The number says how many pairs of marks, one
-- in another, are being passed over. Nothing counts that stands before a `)` which closes nothing.
abbrev pub outside : ℕ → List Lexeme → List Lexeme
outside n [] = []
outside zero (t ∷ ts) = if shuts t then (if is_inside ts then outside 1 ts else []) else t ∷ outside zero ts
outside (suc n) (t ∷ ts) = if opens t then outside n ts else outside (if closes t then suc (suc n) else suc n) ts

-- The words OF that count behind these tokens: those outside of closed parentheses since the last mark that restarts their count. So a `)` gives back what
-- counted at its `(`.
abbrev pub ofs_since : List Lexeme → ℕ
ofs_since front = count_by is_of (take_while (λ t. not (restarts t)) (outside 0 (reverse front)))

-- The level of the token behind these is over MOST_LEVEL. The level is the marks that open less those that close, and the words OF that count.
abbrev pub is_over : List Lexeme → Bool
is_over front = nat_lt (count_by closes front + MOST_LEVEL) (count_by opens front + ofs_since front)

-- the number of the first token whose level is over MOST_LEVEL
unfoldable pub first_too_deep : List Lexeme → Option ℕ
first_too_deep = first_from (λ front _. is_over front) []
