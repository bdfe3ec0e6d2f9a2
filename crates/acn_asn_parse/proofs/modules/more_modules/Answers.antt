use Rattle.std.proofs.Common.{◌≡◌, ◌<◌, length, List, [], ◌∷◌, true, refl, arith}
use Rattle.acn_lex.specs.Lexeme.{Lexeme}
use Rattle.acn_cursor.proofs.Turns.{goes_on}
use Rattle.acn_asn_types.specs.Types.{type_at}
use Rattle.acn_asn_parse.specs.Modules.{has_more, module_at}
use Rattle.acn_asn_parse.proofs.modules.more_modules.Goals as goal

has_some : (ts : List Lexeme) → 0 < length ts → has_more ts ≡ true
has_some [] h = absurd (omega arith)
has_some (t ∷ ts) h = refl

pub loop-preserved : goal.loop-preserved
loop-preserved c =
    let goes : has_more c.loop.cursor ≡ true = has_some c.loop.cursor (omega (arith, c.left.ensures)) in
    rw c.in_ok-push.ensures.ok (goes_on has_more (module_at (type_at c.args.depth)) c.loop.row _ _ _ _ _ _ c.loop-test.true goes c.in_ok-next.ensures c.loop.invariant)
