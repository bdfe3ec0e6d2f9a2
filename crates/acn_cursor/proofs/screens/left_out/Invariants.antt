use Rattle.std.proofs.Common.{◌≡◌, List, [], take, drop}
use Rattle.acn_lex.specs.Lexeme.{Lexeme, lexemes}
use Rattle.acn_lex.specs.Words.{texts}
use Rattle.acn_cursor.specs.Screens.{tokens_of, is_among, first_from}
use Rattle.acn_cursor.proofs.screens.left_out.Given as goal

abbrev pub invariant-loop-at : goal.invariant-loop-at
invariant-loop-at l =
    let test = λ (front : List Lexeme) (t : Lexeme). is_among (tokens_of (texts l.words) (texts l.marks)) t in
    first_from test (lexemes (take l.at l.tokens)) (lexemes (drop l.at l.tokens)) ≡ first_from test [] (lexemes l.tokens)
