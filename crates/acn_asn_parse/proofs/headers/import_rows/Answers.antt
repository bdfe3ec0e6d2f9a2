use Rattle.std.proofs.Common.{◌≡◌, true, rules}
use Rattle.acn_cursor.specs.Steps.{word}
use Rattle.acn_cursor.proofs.Turns.{goes_on}
use Rattle.acn_asn_parse.specs.Headers.{has_import, import_at}
use Rattle.acn_asn_parse.proofs.headers.import_rows.Goals as goal

pub loop-preserved : goal.loop-preserved
loop-preserved c =
    let goes : has_import c.loop.cursor ≡ true = search rules in
    rw c.in_ok-push.ensures.ok (goes_on has_import import_at c.loop.row _ _ _ _ _ _ c.loop-test.true goes c.in_ok-next.ensures c.loop.invariant)
