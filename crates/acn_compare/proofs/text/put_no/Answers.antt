use Rattle.acn_compare.proofs.text.put_no.Goals as goal

pub returns-in-Some : goal.returns-in-Some
returns-in-Some g c = rw (c.in-Some.is, ← c.word_of-word.ensures) c.put_parts.ensures

pub returns-in-None : goal.returns-in-None
returns-in-None g c = rw (c.in-None.is, ← c.word_of-word.ensures) c.put_parts-in-None.ensures
