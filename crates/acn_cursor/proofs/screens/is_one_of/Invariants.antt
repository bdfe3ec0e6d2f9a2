use Rattle.std.proofs.Common.{◌≡◌, drop, map}
use Rattle.acn_lex.specs.Lexeme.{lexeme}
use Rattle.acn_lex.specs.Words.{texts}
use Rattle.acn_cursor.specs.Screens.{is_among}
use Rattle.acn_cursor.specs.Steps.{token}
use Rattle.acn_cursor.proofs.screens.is_one_of.Given as goal

abbrev pub invariant-loop-word : goal.invariant-loop-word
invariant-loop-word l = is_among (map (token l.kind) (texts (drop l.word-index l.words))) (lexeme l.fn.token) ≡ is_among (map (token l.kind) (texts l.words)) (lexeme l.fn.token)
