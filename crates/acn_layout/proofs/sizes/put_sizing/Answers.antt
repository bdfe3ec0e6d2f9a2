use Rattle.acn_layout.proofs.sizes.put_sizing.Goals as goal

pub returns-in-Prefix : goal.returns-in-Prefix
returns-in-Prefix g c = rw c.in-Prefix.is c.put_prefix.ensures

pub returns-in-Slot : goal.returns-in-Slot
returns-in-Slot g c = rw c.in-Slot.is c.put_slot.ensures

pub returns-in-Ended : goal.returns-in-Ended
returns-in-Ended g c = rw c.in-Ended.is c.put_pattern.ensures
