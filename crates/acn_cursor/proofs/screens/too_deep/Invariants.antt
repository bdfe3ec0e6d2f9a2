use Rattle.std.proofs.Common.{take}
use Rattle.acn_lex.specs.Lexeme.{lexemes}
use Rattle.acn_cursor.specs.Screens.{is_over}
use Rattle.acn_cursor.proofs.Firsts.{Rest}
use Rattle.acn_cursor.proofs.Levels.{IsLevel}
use Rattle.acn_cursor.proofs.screens.too_deep.Given as goal

abbrev pub invariant-loop-at : goal.invariant-loop-at
invariant-loop-at l = IsLevel l.level (lexemes (take l.at l.tokens)) l.at × Rest (λ front _. is_over front) l.tokens l.at
