use Rattle.std.proofs.Common.{◌≡◌, true, rules}
use Rattle.acn_cursor.proofs.Turns.{goes_on}
use Rattle.acn_acn_parse.specs.AttributeReading.{has_comma, next_attribute}
use Rattle.acn_acn_parse.proofs.attributes.more_attributes.Goals as goal

pub loop-preserved : goal.loop-preserved
loop-preserved c =
    let goes : has_comma c.loop.cursor ≡ true = search rules in
    rw c.in_ok-push.ensures.ok (goes_on has_comma next_attribute c.loop.attributes _ _ _ _ _ _ c.loop-test.true goes c.in_ok-attribute.ensures c.loop.invariant)
