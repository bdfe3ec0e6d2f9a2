use Rattle.std.proofs.Common.{◌≡◌, ℕ, ◌<◌, length, List, [], ◌∷◌, ◌++◌, map, true, refl, arith, rules}
use Rattle.std.proofs.lemmas.List.{map_push}
use Rattle.acn_lex.specs.Lexeme.{Lexeme}
use Rattle.acn_cursor.proofs.Turns.{goes_on}
use Rattle.acn_acn_syntax.specs.View.{module_of}
use Rattle.acn_acn_parse.specs.FieldReading.{has_more, module_at}
use Rattle.acn_acn_parse.proofs.modules.more_modules.Goals as goal

has_some : (ts : List Lexeme) → 0 < length ts → has_more ts ≡ true
has_some [] h = absurd (omega arith)
has_some (t ∷ ts) h = refl

pub loop-preserved : goal.loop-preserved
loop-preserved c =
    let goes : has_more c.loop.cursor ≡ true = has_some c.loop.cursor (omega (arith, c.left.ensures)) in
    let pushed : map module_of c.push.new.self ≡ map module_of c.loop.modules ++ module_of _ ∷ [] = rw c.in_ok-push.ensures.ok (map_push module_of c.loop.modules _) in
    rw pushed (goes_on has_more (module_at c.args.depth) (map module_of c.loop.modules) _ _ _ _ _ _ c.loop-test.true goes c.in_ok-read.ensures c.loop.invariant)
