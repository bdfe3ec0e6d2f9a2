use Rattle.acn_report.proofs.check_lines.put_check_fault.Goals as goal

pub returns-in-Forward : goal.returns-in-Forward
returns-in-Forward g c = rw c.in-Forward.is c.put_use.ensures

pub returns-in-DetKind : goal.returns-in-DetKind
returns-in-DetKind g c = rw c.in-DetKind.is c.put_use-in-DetKind.ensures

pub returns-in-DetWidth : goal.returns-in-DetWidth
returns-in-DetWidth g c = rw c.in-DetWidth.is c.put_at.ensures

pub returns-in-AbsentUnclear : goal.returns-in-AbsentUnclear
returns-in-AbsentUnclear g c = rw c.in-AbsentUnclear.is c.put_at-in-AbsentUnclear.ensures

pub returns-in-Unused : goal.returns-in-Unused
returns-in-Unused g c = rw c.in-Unused.is c.put_at-in-Unused.ensures

pub returns-in-NoItem : goal.returns-in-NoItem
returns-in-NoItem g c = rw c.in-NoItem.is c.put_no_item.ensures

pub returns-in-MixedChoice : goal.returns-in-MixedChoice
returns-in-MixedChoice g c = rw c.in-MixedChoice.is c.put_at-in-MixedChoice.ensures

pub returns-in-TooLong : goal.returns-in-TooLong
returns-in-TooLong g c = rw c.in-TooLong.is c.put_limit.ensures

pub returns-in-TooManyOpen : goal.returns-in-TooManyOpen
returns-in-TooManyOpen g c = rw c.in-TooManyOpen.is c.put_count.ensures

pub returns-in-TooManyConditions : goal.returns-in-TooManyConditions
returns-in-TooManyConditions g c = rw c.in-TooManyConditions.is c.put_count-in-TooManyConditions.ensures

pub returns-in-TooManyValues : goal.returns-in-TooManyValues
returns-in-TooManyValues g c = rw c.in-TooManyValues.is c.put_limit-in-TooManyValues.ensures

pub returns-in-TerminatorAmbiguous : goal.returns-in-TerminatorAmbiguous
returns-in-TerminatorAmbiguous g c = rw c.in-TerminatorAmbiguous.is c.put_at-in-TerminatorAmbiguous.ensures

pub returns-in-Overlap : goal.returns-in-Overlap
returns-in-Overlap g c = rw (c.in-Overlap.is, ← c.items.ensures) c.put_overlap.ensures
