use Rattle.std.proofs.Common.{◌≡◌, true, rules}
use Rattle.acn_cursor.proofs.Turns.{goes_on}
use Rattle.acn_asn_types.specs.Lists.{has_comma, next}
use Rattle.acn_asn_types.specs.Bases.{named}
use Rattle.acn_asn_types.proofs.bases.more_named.Goals as goal

pub loop-preserved : goal.loop-preserved
loop-preserved c =
    let goes : has_comma c.loop.cursor ≡ true = search rules in
    rw c.in_ok-push.ensures.ok (goes_on has_comma (next named) c.loop.row _ _ _ _ _ _ c.loop-test.true goes c.in_ok-next.ensures c.loop.invariant)
