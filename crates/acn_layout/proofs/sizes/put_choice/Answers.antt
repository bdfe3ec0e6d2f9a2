use Rattle.acn_layout.proofs.sizes.put_choice.Goals as goal

pub returns-in-Index : goal.returns-in-Index
returns-in-Index g c = rw c.in-Index.is c.put_width.ensures

pub returns-in-Item : goal.returns-in-Item
returns-in-Item g c = rw c.in-Item.is c.put_slot.ensures
