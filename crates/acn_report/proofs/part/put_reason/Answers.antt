use Rattle.acn_report.proofs.part.put_reason.Goals as goal

pub returns-in-OutOfRange : goal.returns-in-OutOfRange
returns-in-OutOfRange g c = rw c.in-OutOfRange.is c.put_out_of_range.ensures

pub returns-in-BadCharacter : goal.returns-in-BadCharacter
returns-in-BadCharacter g c = rw c.in-BadCharacter.is c.put_piece-in-BadCharacter.ensures

pub returns-in-SizeOutOfRange : goal.returns-in-SizeOutOfRange
returns-in-SizeOutOfRange g c = rw c.in-SizeOutOfRange.is c.put_all.ensures

pub returns-in-NoAlternative : goal.returns-in-NoAlternative
returns-in-NoAlternative g c = rw c.in-NoAlternative.is c.put_piece-in-NoAlternative.ensures
