use Rattle.std.proofs.Common.{◌≡◌, ◌<◌, true, length, List, [], ◌∷◌, refl, arith, rules}
use Rattle.acn_lex.specs.Lexeme.{Lexeme}
use Rattle.acn_cursor.proofs.Turns.{goes_on}
use Rattle.acn_acn_parse.specs.MapReading.{has_more, table}
use Rattle.acn_acn_parse.proofs.maps.all_tables.Goals as goal

has_some : (ts : List Lexeme) → 0 < length ts → has_more ts ≡ true
has_some [] h = absurd (omega arith)
has_some (t ∷ ts) h = refl

pub loop-preserved : goal.loop-preserved
loop-preserved c =
    let goes : has_more c.loop.cursor ≡ true = has_some c.loop.cursor (omega (arith, c.left.ensures)) in
    rw c.in_ok-push.ensures.ok (goes_on has_more table c.loop.tables _ _ _ _ _ _ c.loop-test.true goes c.in_ok-table.ensures c.loop.invariant)
