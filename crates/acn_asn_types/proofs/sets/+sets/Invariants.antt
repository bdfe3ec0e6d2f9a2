-- A call goes to a form inside, or to the sets that are one level deeper.
use Rattle.std.proofs.Common.{◌≡◌, ◌+◌, ◌-◌, ◌*◌}
use Rattle.acn_cursor.specs.Steps.{repeat, many, with_front}
use Rattle.acn_asn_types.specs.Sets.{has_part_mark, has_meet_mark, next_meet, next_part, set_at}
use Rattle.acn_asn_types.proofs.sets.+sets.Given as goal

abbrev pub decreases-set_in : goal.decreases-set_in
decreases-set_in l = 16 * l.depth + 15

abbrev pub decreases-all_except : goal.decreases-all_except
decreases-all_except l = 16 * l.depth + 14

abbrev pub decreases-union : goal.decreases-union
decreases-union l = 16 * l.depth + 14

abbrev pub decreases-more_meets : goal.decreases-more_meets
decreases-more_meets l = 16 * l.depth + 13

abbrev pub decreases-next_meet : goal.decreases-next_meet
decreases-next_meet l = 16 * l.depth + 12

abbrev pub decreases-meet : goal.decreases-meet
decreases-meet l = 16 * l.depth + 11

abbrev pub decreases-more_parts : goal.decreases-more_parts
decreases-more_parts l = 16 * l.depth + 10

abbrev pub decreases-next_part : goal.decreases-next_part
decreases-next_part l = 16 * l.depth + 9

abbrev pub decreases-part : goal.decreases-part
decreases-part l = 16 * l.depth + 8

abbrev pub decreases-but : goal.decreases-but
decreases-but l = 16 * l.depth + 7

abbrev pub decreases-element : goal.decreases-element
decreases-element l = 16 * l.depth + 6

abbrev pub decreases-inner : goal.decreases-inner
decreases-inner l = 16 * l.depth + 5

abbrev pub decreases-group : goal.decreases-group
decreases-group l = 16 * l.depth + 4

abbrev pub decreases-set : goal.decreases-set
decreases-set l = 16 * l.depth + 0

abbrev pub invariant-more_meets-loop : goal.invariant-more_meets-loop
invariant-more_meets-loop l = with_front l.meets (repeat has_meet_mark (next_meet (set_at l.depth)) (l.end - l.counter) l.cursor) ≡ many has_meet_mark (next_meet (set_at l.depth)) l.fn.cursor

abbrev pub invariant-more_parts-loop : goal.invariant-more_parts-loop
invariant-more_parts-loop l = with_front l.parts (repeat has_part_mark (next_part (set_at l.depth)) (l.end - l.counter) l.cursor) ≡ many has_part_mark (next_part (set_at l.depth)) l.fn.cursor
