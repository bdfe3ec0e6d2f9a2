-- What the answers of the calls say: each kind of answer as the data that its definition speaks of. (It maps names to names,
-- and defines nothing of packets.)
use Rattle.std.specs.Prelude.{Option, Some, None, option_map}
use Rattle.acn_grammar.specs.Asks as asks
use Rattle.acn_grammar.specs.Check as check
use Rattle.acn_grammar.specs.Fails as fails
use Rattle.acn_grammar.specs.LeafFails as wire
use Rattle.acn_grammar.specs.Meets as meets
use Rattle.acn_grammar.specs.declared.unfit.Ask.{Ask}
use Rattle.acn_grammar.specs.declared.unfit.Ask.TheVariants.{Equal, Avoid}
use Rattle.acn_grammar.specs.declared.unfit.UnfitReason.{UnfitReason}
use Rattle.acn_grammar.specs.declared.unfit.UnfitReason.TheVariants as unfit
use Rattle.acn_grammar.specs.declared.unfit.Unfit.{Unfit}
use Rattle.acn_grammar.specs.declared.fault.Reason.{Reason}
use Rattle.acn_grammar.specs.declared.fault.Reason.TheVariants.{Short, OutOfRange, NotMinimal, BadDigit, BadCharacter, BadPattern, TooLong, SizeOutOfRange, NoAlternative, ContentSize, PastContent}
use Rattle.acn_grammar.specs.declared.fault.Fault.{Fault}
use Rattle.acn_grammar.specs.declared.check_fault.CheckFault.{CheckFault}
use Rattle.acn_grammar.specs.declared.check_fault.CheckFault.TheVariants as fault

-- what is asked of a slot
abbrev pub ask_of : Ask → asks.Ask
ask_of (Equal n) = asks.Equal n
ask_of (Avoid k) = asks.Avoid k

-- why a value isn't one of a node's
abbrev pub why_of : UnfitReason → meets.Why
why_of (unfit.OutOfRange x) = meets.out_of_range x
why_of (unfit.SizeOutOfRange n) = meets.size_out_of_range n
why_of (unfit.BadCharacter i) = meets.bad_character i
why_of (unfit.TerminatorInside i) = meets.terminator_inside i
why_of (unfit.Conflict slot earlier wanted) = meets.conflict slot (option_map ask_of earlier) (ask_of wanted)
why_of (unfit.ContentSize n) = meets.content_size n

-- where and why
abbrev pub unfit_of : Unfit → meets.Unfit
unfit_of u = record { path = u.path; why = why_of u.reason }

-- why a node can't be read
abbrev pub reason_of : Reason → wire.Reason
reason_of Short = wire.short
reason_of (OutOfRange x) = wire.out_of_range x
reason_of NotMinimal = wire.not_minimal
reason_of BadDigit = wire.bad_digit
reason_of BadCharacter = wire.bad_character
reason_of BadPattern = wire.bad_pattern
reason_of TooLong = wire.too_long
reason_of (SizeOutOfRange n) = wire.size_out_of_range n
reason_of NoAlternative = wire.no_alternative
reason_of (ContentSize octets used) = wire.content_size octets used
reason_of PastContent = wire.past_content

-- where, why and at which bit
abbrev pub fault_of : Fault → fails.Fault
fault_of f = record { path = f.path; reason = reason_of f.reason; at = f.at }

-- what keeps a grammar from being decoded; want of memory says nothing of the grammar
abbrev pub check_fault_of : CheckFault → Option check.CheckFault
check_fault_of (fault.Forward user det) = Some (check.forward user det)
check_fault_of (fault.DetKind user det) = Some (check.det_kind user det)
check_fault_of (fault.DetWidth det) = Some (check.det_width det)
check_fault_of (fault.Overlap at i j values) = Some (check.overlap at i j values)
check_fault_of (fault.AbsentUnclear at) = Some (check.absent_unclear at)
check_fault_of (fault.Unused det) = Some (check.unused det)
check_fault_of (fault.NoItem at i) = Some (check.no_item at i)
check_fault_of (fault.MixedChoice at) = Some (check.mixed_choice at)
check_fault_of (fault.TooLong n) = Some (check.too_long n)
check_fault_of (fault.TooManyOpen at n) = Some (check.too_many_open at n)
check_fault_of (fault.TooManyConditions det n) = Some (check.too_many_conditions det n)
check_fault_of (fault.TooManyValues n) = Some (check.too_many_values n)
check_fault_of (fault.TerminatorAmbiguous at) = Some (check.terminator_ambiguous at)
check_fault_of fault.NoMemory = None
