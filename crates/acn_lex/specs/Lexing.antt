-- What the lexer's loop answers, turn by turn. What tokens and faults are is said in Lexes.
use Rattle.std.specs.Prelude.{◌≡◌, ℕ, zero, suc, ◌+◌, List, [], ◌∷◌, ◌++◌, take, drop, map, Result, Ok, Err}
use Rattle.acn_lex.specs.declared.Tokens.{Tokens}
use Rattle.acn_lex.specs.declared.fault.LexFault.{LexFault}
use Rattle.acn_lex.specs.declared.fault.LexFault.TheVariants as fault
use Rattle.acn_lex.specs.declared.scan.Step.{Step}
use Rattle.acn_lex.specs.declared.scan.Step.TheVariants as step
use Rattle.acn_lex.specs.Scan.{step_at}
use Rattle.acn_lex.specs.Lexeme.{Placed, placed}

abbrev pub Outcome : Type 0
Outcome = Result (List Placed) LexFault

abbrev pub with_front : List Placed → Outcome → Outcome
with_front front (Ok ts) = Ok (front ++ ts)
with_front front (Err e) = Err e

-- a token at a place, where there may be so many, and what follows it
abbrev pub by_token : ℕ → ℕ → Placed → (ℕ → Outcome) → Outcome
by_token at zero t more = Err (fault.TooManyTokens at)
by_token at (suc room) t more = with_front (t ∷ []) (more room)

abbrev pub by_step : ℕ → ℕ → List ℕ → (ℕ → ℕ → Outcome) → Step → Outcome
by_step room at bytes more step.End = Ok []
by_step room at bytes more (step.Gap k) = more k room
by_step room at bytes more (step.Token kind k) = by_token at room (record { kind = kind; at = at; text = take k bytes }) (more k)
by_step room at bytes more step.BadByte = Err (fault.BadByte at)
by_step room at bytes more step.Unclosed = Err (fault.Unclosed at)
by_step room at bytes more step.TooWide = Err (fault.TooWide at)

-- The tokens of the bytes, of which there may be so many, and of which the first stands at a place. The first number bounds the turns.
abbrev pub lex_from : ℕ → ℕ → ℕ → List ℕ → Outcome
lex_from zero room at bytes = Ok []
lex_from (suc n) room at bytes = by_step room at bytes (λ k left. lex_from n left (at + k) (drop k bytes)) (step_at bytes)

abbrev pub FailsWith : Outcome → LexFault → Type 0
FailsWith outcome fault.NoMemory = Unit {0}
FailsWith outcome e = outcome ≡ Err e

abbrev pub Gives : Outcome → Result Tokens LexFault → Type 0
Gives outcome (Ok ts) = outcome ≡ Ok (map placed ts.list)
Gives outcome (Err e) = FailsWith outcome e
