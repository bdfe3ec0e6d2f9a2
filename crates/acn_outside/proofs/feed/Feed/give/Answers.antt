use Rattle.std.proofs.Common.{◌≡◌, ◌+◌, ◌-◌, ◌∙◌, ap, sym, length, take, drop, arith}
use Rattle.acn_outside.specs.Memory.{Feeding}
use Rattle.acn_outside.proofs.Joined.{moved_on}
use Rattle.acn_outside.proofs.feed.Feed.give.Goals as goal

pub returns-clause-moved : goal.returns-clause-moved
returns-clause-moved c =
    let bytes = c.self.inside.bytes.items in
    let at = c.self.inside.at in
    let n = c.min-n.result in
    let was : c.args.self.now.rest ≡ drop at bytes = sym (ap (λ (feed : Feeding). feed.rest) c.self.view_is) in
    let same : take (length (take (at + n - at) (drop at bytes))) c.copy_front.new.into ≡ take (at + n - at) (drop at bytes) = rw (← c.deref.ensures.value) c.copy_front.ensures in
    was ∙ moved_on bytes c.copy_front.new.into at n (omega arith) same
