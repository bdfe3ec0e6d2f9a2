-- The faults in the order of their numbers.
use Rattle.std.specs.Prelude.{ℕ, ◌^◌, ◌-◌, min, nat_lt, List, length, map, Option}
use Rattle.std.specs.List.{flat_map}
use Rattle.acn_grammar.specs.Check.{CheckFault, too_many_conditions, equals_on}
use Rattle.acn_grammar.specs.Grammar.{Grammar}
use Rattle.acn_grammar.specs.Slots.{first_of_two}
use Rattle.acn_grammar.specs.Walk.{nodes_of}
use Rattle.acn_check.specs.Facts.{Facts, seen}
use Rattle.acn_check.specs.First.{Det, Tally, dets, tallied, no_tallies, uses_of, first_of, given, only_if, first_behind, first_wrong_kind, no_width, overlap_at, unclear, no_use, no_item_at, mixed_at, long, much_open, many_values, ambiguous_at}
use Rattle.acn_grammar.specs.declared.limits.TheConstants.{MOST_CONDITIONS}

-- 1 to 4
abbrev pub unreadable : List Det → List Facts → Option CheckFault
unreadable ds l = first_of_two (first_of (first_behind ds) 0 l) (first_of_two (first_of (first_wrong_kind ds) 0 l) (first_of_two (first_of (no_width ds) 0 l) (first_of (overlap_at ds) 0 l)))

-- 5 to 8
abbrev pub dubious : List Det → List Tally → List Facts → Option CheckFault
dubious ds ts l = first_of_two (first_of unclear 0 l) (first_of_two (first_of (no_use ts) 0 l) (first_of_two (first_of (no_item_at ds) 0 l) (first_of mixed_at 0 l)))

-- 9 to 13, of which the third is given
abbrev pub beyond : Grammar → List Facts → Option CheckFault → Option CheckFault
beyond root l conditions = first_of_two (long root) (first_of_two (first_of much_open 0 l) (first_of_two conditions (first_of_two (many_values root) (first_of ambiguous_at 0 l))))

-- too many conditions compare the slot with a number
abbrev pub many_equals : Grammar → ℕ → Facts → Option CheckFault
many_equals root k f = given f.tag.slot (λ s. only_if (nat_lt MOST_CONDITIONS (equals_on root s)) (too_many_conditions f.path (equals_on root s)))

-- the fault of a count that ends at the greatest number of 32 bits
abbrev pub capped : CheckFault → CheckFault
capped (too_many_conditions path n) = too_many_conditions path (min n (2 ^ 32 - 1))
capped f = f

abbrev pub lines_of : Grammar → List Facts
lines_of root = map seen (nodes_of root)

abbrev pub tallies_of : List Facts → List Tally
tallies_of l = tallied (no_tallies (length (dets 0 l))) (flat_map uses_of l)

unfoldable pub first_fault : Grammar → Option CheckFault
first_fault root =
    first_of_two (unreadable (dets 0 (lines_of root)) (lines_of root)) (first_of_two (dubious (dets 0 (lines_of root)) (tallies_of (lines_of root)) (lines_of root)) (beyond root (lines_of root) (first_of (many_equals root) 0 (lines_of root))))
