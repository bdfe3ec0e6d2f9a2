use Rattle.std.proofs.Common.{◌≡◌, true, rules}
use Rattle.acn_cursor.proofs.Turns.{goes_on}
use Rattle.acn_acn_parse.specs.MapReading.{has_line, line}
use Rattle.acn_acn_parse.proofs.maps.lines.Goals as goal

pub loop-preserved : goal.loop-preserved
loop-preserved c =
    let goes : has_line c.loop.cursor ≡ true = search rules in
    rw c.in_ok-push.ensures.ok (goes_on has_line line c.loop.lines _ _ _ _ _ _ c.loop-test.true goes c.in_ok-line.ensures c.loop.invariant)
