-- What holds of numbers, tokens and faults, whoever reads the file.
use Rattle.std.specs.Prelude.{◌≡◌, ℕ, ◌<◌, ◌≤◌, ◌^◌, List, length, Some, decimal}
use Rattle.acn_lex.specs.declared.fault.LexFault.{LexFault}
use Rattle.acn_lex.specs.declared.lexing.TheConstants.{MOST_TOKENS}
use Rattle.acn_lex.specs.Lexeme.{Placed}
use Rattle.acn_lex.specs.Number.{number_in}
use Rattle.acn_lex.specs.Lexes.{Lexes, Faults}

-- a text that spells a number is the decimal text of that number, which is below 2 ^ 64
abbrev pub SpellingsAreDecimal : Type 0
SpellingsAreDecimal = (text : List ℕ) (n : ℕ) → number_in text ≡ Some n → (text ≡ decimal n) × (n < 2 ^ 64)

-- the decimal text of a number below 2 ^ 64 spells that number
abbrev pub DecimalsAreSpellings : Type 0
DecimalsAreSpellings = (n : ℕ) → n < 2 ^ 64 → number_in (decimal n) ≡ Some n

-- the bytes have the tokens of one list alone
abbrev pub TokensAreDetermined : Type 0
TokensAreDetermined = (bytes : List ℕ) (ts us : List Placed) → Lexes 0 bytes ts → Lexes 0 bytes us → ts ≡ us

-- the bytes have one first fault alone
abbrev pub FaultsAreDetermined : Type 0
FaultsAreDetermined = (bytes : List ℕ) (e f : LexFault) → Faults bytes e → Faults bytes f → e ≡ f

-- bytes with a fault have no tokens, or more than there may be
abbrev pub FaultsHaveNoTokens : Type 0
FaultsHaveNoTokens = (bytes : List ℕ) (e : LexFault) (ts : List Placed) → Faults bytes e → Lexes 0 bytes ts → length ts ≤ MOST_TOKENS → ⊥
