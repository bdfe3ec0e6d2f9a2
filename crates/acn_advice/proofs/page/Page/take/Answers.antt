use Rattle.std.proofs.Common.{◌≡◌, ◌≤◌, ◌++◌, ◌∷◌, [], ap, arith}
use Rattle.acn_advice.specs.Page.{feeds}
use Rattle.acn_advice.proofs.Feeds.{feeds_push}
use Rattle.acn_advice.proofs.page.Page.take.Goals as goal

-- src/page.rt:77:17
pub invariant_of-self : goal.invariant_of-self
invariant_of-self c =
    let more = feeds_push c.self.inside.text.items c.args.byte in
    let grown = ap feeds c.in-Ok.ensures.items in
    let before = c.self.invariant.0 in
    let value = c.line_feeds.ensures.value in
    let most = c.line_feeds.ensures.most in
    let room = c.if-self-ge-MOST_LINES.false in
    (omega (arith, more, grown, before, value), omega (arith, most, room))
