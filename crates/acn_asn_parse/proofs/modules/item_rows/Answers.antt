use Rattle.std.proofs.Common.{◌≡◌, true, rules}
use Rattle.acn_cursor.proofs.Turns.{goes_on}
use Rattle.acn_asn_types.specs.Types.{type_at}
use Rattle.acn_asn_parse.specs.Modules.{has_item, assign_at}
use Rattle.acn_asn_parse.proofs.modules.item_rows.Goals as goal

pub loop-preserved : goal.loop-preserved
loop-preserved c =
    let goes : has_item c.loop.cursor ≡ true = search rules in
    rw c.in_ok-push.ensures.ok (goes_on has_item (assign_at (type_at c.args.depth)) c.loop.row _ _ _ _ _ _ c.loop-test.true goes c.in_ok-next.ensures c.loop.invariant)
