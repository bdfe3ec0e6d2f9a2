use Rattle.acn_extremes.proofs.Endings.{sizes_small, meet_small}
use Rattle.acn_extremes.proofs.parts.sizes_can.Goals as goal

pub returns-in_ok-both-in-Slot-clause-small : goal.returns-in_ok-both-in-Slot-clause-small
returns-in_ok-both-in-Slot-clause-small c = meet_small c.args.sizing.now.sizes _ _ c.requires c.in_ok-both-in-Slot.ensures.numbers

pub returns-in_ok-copy-in-Prefix-clause-small : goal.returns-in_ok-copy-in-Prefix-clause-small
returns-in_ok-copy-in-Prefix-clause-small c = rw c.in_ok-copy-in-Prefix.ensures (sizes_small c.args.sizing.now.sizes c.requires)

pub returns-in_ok-copy-in-Ended-clause-small : goal.returns-in_ok-copy-in-Ended-clause-small
returns-in_ok-copy-in-Ended-clause-small c = rw c.in_ok-copy-in-Ended.ensures (sizes_small c.args.sizing.now.sizes c.requires)
