use Rattle.std.proofs.Common.{◌≡◌, ◌+◌, ◌∷◌, [], take, drop, sym, append-nil}
use Rattle.acn_supply.proofs.Pieces.{append_stops}
use Rattle.acn_supply.proofs.lines.step.Goals as goal

pub returns-in-Err-clause-moved : goal.returns-in-Err-clause-moved
returns-in-Err-clause-moved c =
    let hand = c.args.supply.now.hand in
    let at = c.in-Some.at in
    let same : c.hand-hand.result.now ≡ hand = c.hand-hand.ensures.same in
    let feed = rw same at c.in-Some.ensures in
    append_stops hand _ (take at hand) (10 ∷ drop (at + 1) hand) c.args.line.now.items _ c.in-Err.no_line (rw same at c.in-Err.ensures) feed.2 feed.1 c.requires

pub returns-in-Err-append-clause-moved : goal.returns-in-Err-append-clause-moved
returns-in-Err-append-clause-moved c =
    let hand = c.args.supply.now.hand in
    let same : c.hand-hand.result.now ≡ hand = c.hand-hand.ensures.same in
    append_stops hand _ hand [] c.args.line.now.items _ c.in-Err-append.no_line (rw same at c.in-Err-append.ensures) (sym (append-nil hand)) (rw same at c.in-None.ensures) c.requires
