-- What is answered for the bytes of a file.
use Rattle.std.specs.Prelude.{◌≡◌, ℕ, ◌≤◌, List, length, map, Option, Some, None, option_map, slice_get, Result, Ok, Err, ◌⊎◌}
use Rattle.acn_lex.specs.declared.fault.LexFault.{LexFault}
use Rattle.acn_lex.specs.declared.fault.LexFault.TheVariants as lex
use Rattle.acn_lex.specs.declared.lexing.TheConstants.{MOST_TOKENS}
use Rattle.acn_lex.specs.Lexeme.{Lexeme, Placed}
use Rattle.acn_lex.specs.Lexes.{Lexes, Faults}
use Rattle.acn_cursor.specs.declared.fault.ParseFault.{ParseFault}
use Rattle.acn_cursor.specs.declared.fault.ParseFault.TheVariants as parse
use Rattle.acn_cursor.specs.Screens.{first_left_out, first_too_deep}
use Rattle.acn_sources.specs.declared.fault.FileFault.{FileFault}
use Rattle.acn_sources.specs.declared.fault.FileFault.TheVariants.{BadByte, Unclosed, TooManyTokens, TooWide, LeftOut, TooDeep, Syntax, NoMemory}

-- these are the tokens of the bytes, and no more than there may be
abbrev pub AreTokens : List ℕ → List Placed → Type 0
AreTokens bytes ts = Lexes 0 bytes ts × (length ts ≤ MOST_TOKENS)

-- tokens without their places
abbrev pub unplaced : List Placed → List Lexeme
unplaced ts = map (λ t. record { kind = t.kind; text = t.text }) ts

-- where the token of this number begins, or the end of the file
abbrev pub place_of : ℕ → List Placed → ℕ → ℕ
place_of end ts n = elim (slice_get ts n) [ None ↦ end | Some t ↦ t.at ]

-- how long it is
abbrev pub length_of : List Placed → ℕ → ℕ
length_of ts n = elim (slice_get ts n) [ None ↦ 0 | Some t ↦ length t.text ]

-- a fault of the bytes, and one of the tokens, by its place in the file
abbrev pub lexical : LexFault → FileFault
lexical (lex.BadByte at) = BadByte at
lexical (lex.Unclosed at) = Unclosed at
lexical (lex.TooManyTokens at) = TooManyTokens at
lexical (lex.TooWide at) = TooWide at
lexical lex.NoMemory = NoMemory

abbrev pub located : ℕ → List Placed → ParseFault → FileFault
located end ts (parse.Syntax n) = Syntax (place_of end ts n)
located end ts (parse.TooDeep n) = TooDeep (place_of end ts n)
located end ts (parse.LeftOut n) = LeftOut (place_of end ts n) (length_of ts n)
located end ts parse.NoMemory = NoMemory

-- A kind of file: the tokens of its trees, which of them are proper, what is left out of it, and the number of the token where its productions stop.
pub record Grammar (T : Type 0) : Type 1 where
  pub tokens_of : T → List Lexeme
  pub IsProper : T → Type 0
  pub left_out : List Lexeme
  pub stops_at : List Lexeme → Option ℕ

module _ {T : Type 0} (g : Grammar T) where
  -- nothing is left out of these tokens, and none is too deep
  pub record AreFit (ts : List Placed) : Type 0 where
    pub read : first_left_out g.left_out (unplaced ts) ≡ None
    pub flat : first_too_deep (unplaced ts) ≡ None

  -- a proper tree whose tokens are those of the bytes
  abbrev pub IsTree : List ℕ → T → Type 0
  IsTree bytes t = g.IsProper t × (ts : List Placed) × AreTokens bytes ts × AreFit ts × (unplaced ts ≡ g.tokens_of t)

  -- the first fault of a file
  abbrev pub IsFault : List ℕ → FileFault → Type 0
  IsFault bytes (BadByte at) = Faults bytes (lex.BadByte at)
  IsFault bytes (Unclosed at) = Faults bytes (lex.Unclosed at)
  IsFault bytes (TooManyTokens at) = Faults bytes (lex.TooManyTokens at)
  IsFault bytes (TooWide at) = Faults bytes (lex.TooWide at)
  IsFault bytes (LeftOut at n) = (ts : List Placed) × (k : ℕ) × AreTokens bytes ts × (first_left_out g.left_out (unplaced ts) ≡ Some k)
      × (at ≡ place_of (length bytes) ts k) × (n ≡ length_of ts k)
  IsFault bytes (TooDeep at) = (ts : List Placed) × (k : ℕ) × AreTokens bytes ts × (first_left_out g.left_out (unplaced ts) ≡ None)
      × (first_too_deep (unplaced ts) ≡ Some k) × (at ≡ place_of (length bytes) ts k)
  IsFault bytes (Syntax at) = (ts : List Placed) × (k : ℕ) × AreTokens bytes ts × AreFit ts
      × ((t : T) → g.IsProper t → unplaced ts ≡ g.tokens_of t → ⊥) × (g.stops_at (unplaced ts) ≡ Some k) × (at ≡ place_of (length bytes) ts k)
  IsFault bytes NoMemory = ⊥

-- the answer is this tree, unless memory ran out
abbrev pub AnswersTree : {T : Type 0} → T → Result T FileFault → Type 0
AnswersTree t (Ok x) = x ≡ t
AnswersTree t (Err e) = e ≡ NoMemory

-- the answer is this fault, unless memory ran out
abbrev pub AnswersFault : {T : Type 0} → FileFault → Result T FileFault → Type 0
AnswersFault e (Ok x) = ⊥
AnswersFault e (Err f) = (e ≡ f) ⊎ (f ≡ NoMemory)
