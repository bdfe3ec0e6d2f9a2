use Rattle.std.proofs.Common.{◌≡◌, ℕ, ◌<◌, length, List, [], ◌∷◌, ◌++◌, map, true, refl, arith, rules}
use Rattle.std.proofs.lemmas.List.{map_push}
use Rattle.acn_lex.specs.Lexeme.{Lexeme}
use Rattle.acn_cursor.proofs.Turns.{goes_on}
use Rattle.acn_acn_syntax.specs.View.{entry_of}
use Rattle.acn_acn_parse.specs.FieldReading.{has_entry, entry_at}
use Rattle.acn_acn_parse.proofs.modules.entries.Goals as goal

pub loop-preserved : goal.loop-preserved
loop-preserved c =
    let goes : has_entry c.loop.cursor ≡ true = search rules in
    let pushed : map entry_of c.push.new.self ≡ map entry_of c.loop.entries ++ entry_of _ ∷ [] = rw c.in_ok-push.ensures.ok (map_push entry_of c.loop.entries _) in
    rw pushed (goes_on has_entry (entry_at c.args.depth) (map entry_of c.loop.entries) _ _ _ _ _ _ c.loop-test.true goes c.in_ok-entry.ensures c.loop.invariant)
