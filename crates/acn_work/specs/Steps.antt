-- What the calls inside do.
use Rattle.std.specs.Prelude.{◌≡◌, ℕ, ◌+◌, ◌≤◌, Bool, List, length}
use Rattle.acn_grammar.specs.Front.{Front, IsWritten}
use Rattle.acn_grammar.specs.Grammar.{Grammar, Data}
use Rattle.acn_grammar.specs.Meets.{Unfit}
use Rattle.acn_grammar.specs.Refused.{Refused}
use Rattle.acn_grammar.specs.declared.limits.TheConstants.{MOST_PACKET_BITS}
use Rattle.acn_work.specs.declared.summary.Summary.{Summary}
use Rattle.acn_work.specs.declared.trying.Outcome.{Outcome}
use Rattle.acn_work.specs.declared.trying.Outcome.TheVariants as outcome

-- a value is at the front of the bits
abbrev pub HasFront : Grammar → (input : List Bool) → Type 0
HasFront g input = (d : Data) × (n : ℕ) × Front g input d n

-- what came of the value
abbrev pub CameOf : Grammar → Data → Outcome → Type 0
CameOf g d (outcome.Packed n) = (bs : List Bool) × IsWritten g d bs × (n ≡ length bs)
CameOf g d outcome.Refused = (unfit : Unfit) × Refused g d unfit

-- no more bits than a packet may have
abbrev pub IsShort : Outcome → Type 0
IsShort (outcome.Packed n) = n ≤ MOST_PACKET_BITS
IsShort outcome.Refused = Unit {0}

-- one value more
abbrev pub counted : Summary → Outcome → Summary
counted s (outcome.Packed n) = record { made = s.made + 1; packed = s.packed + 1; refused = s.refused; bits = s.bits + n }
counted s outcome.Refused = record { made = s.made + 1; packed = s.packed; refused = s.refused + 1; bits = s.bits }
