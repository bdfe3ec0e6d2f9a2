use Rattle.acn_text.proofs.Places.{PlacesLeft}
use Rattle.acn_text.proofs.alphabet.place_in_ranges.Given as goal

abbrev pub invariant-loop-range : goal.invariant-loop-range
invariant-loop-range l = PlacesLeft l.ranges l.x l.range-index l.below
