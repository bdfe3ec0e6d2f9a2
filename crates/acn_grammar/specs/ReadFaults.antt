-- The reasons that a reader of leaves answers, as those of LeafFails. (It maps names to names.)
use Rattle.acn_grammar.specs.LeafFails.{Reason, short, out_of_range, not_minimal, bad_digit, bad_character, bad_pattern, too_long, size_out_of_range}
use Rattle.acn_grammar.specs.declared.read_fault.ReadFault.{ReadFault}
use Rattle.acn_grammar.specs.declared.read_fault.ReadFault.TheVariants.{Short, OutOfRange, NotMinimal, BadDigit, BadCharacter, BadPattern, TooLong, SizeOutOfRange}

-- the reason that the fault names
abbrev pub reason_of : ReadFault → Reason
reason_of Short = short
reason_of (OutOfRange wire) = out_of_range wire
reason_of NotMinimal = not_minimal
reason_of BadDigit = bad_digit
reason_of BadCharacter = bad_character
reason_of BadPattern = bad_pattern
reason_of TooLong = too_long
reason_of (SizeOutOfRange n) = size_out_of_range n
