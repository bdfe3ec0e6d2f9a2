use Rattle.std.proofs.Common.{◌≡◌, true, rules}
use Rattle.acn_cursor.proofs.Turns.{goes_on}
use Rattle.acn_acn_parse.specs.AttributeReading.{has_stop, next_name}
use Rattle.acn_acn_parse.proofs.attributes.more_names.Goals as goal

pub loop-preserved : goal.loop-preserved
loop-preserved c =
    let goes : has_stop c.loop.cursor ≡ true = search rules in
    rw c.in_ok-push.ensures.ok (goes_on has_stop next_name c.loop.names _ _ _ _ _ _ c.loop-test.true goes c.in_ok-name.ensures c.loop.invariant)
