use Rattle.acn_layout.proofs.coding.put_marks.Goals as goal

pub returns : goal.returns
returns g c = rw (← c.words_if.ensures, ← c.words_if-2.ensures) c.put_parts.ensures
