use Rattle.std.proofs.Common.{◌≡◌, true, rules}
use Rattle.acn_cursor.proofs.Turns.{goes_on}
use Rattle.acn_acn_parse.specs.AttributeReading.{has_comma}
use Rattle.acn_acn_parse.specs.FieldReading.{next_path}
use Rattle.acn_acn_parse.proofs.fields.more_paths.Goals as goal

pub loop-preserved : goal.loop-preserved
loop-preserved c =
    let goes : has_comma c.loop.cursor ≡ true = search rules in
    rw c.in_ok-push.ensures.ok (goes_on has_comma next_path c.loop.paths _ _ _ _ _ _ c.loop-test.true goes c.in_ok-path.ensures c.loop.invariant)
