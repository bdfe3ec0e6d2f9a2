use Rattle.std.proofs.Common.{◌≡◌, ◌+◌, ◌-◌, ◌≤◌, length, map}
use Rattle.acn_lex.specs.Lexing.{with_front, lex_from}
use Rattle.acn_lex.specs.Lexeme.{placed}
use Rattle.acn_lex.proofs.lexing.by_turns.Given as goal
use Rattle.acn_lex.specs.declared.lexing.TheConstants.{MOST_TOKENS}

abbrev pub invariant-loop : goal.invariant-loop
invariant-loop l = record { within : l.at + length l.rest ≡ length l.bytes; few : length l.list ≤ MOST_TOKENS; told : with_front (map placed l.list) (lex_from (l.end - l.counter) (MOST_TOKENS - length l.list) l.at l.rest) ≡ lex_from (length l.bytes) MOST_TOKENS 0 l.bytes }
