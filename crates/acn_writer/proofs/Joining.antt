-- Bits that are put one behind another.
use Rattle.std.proofs.Common.{◌≡◌, ◌+◌, Bool, List, ◌++◌, length, refl, arith, length-append}
use Rattle.acn_bits.proofs.Parts.{length-overwritten, overwritten-append}
use Rattle.acn_events.specs.Event.{State}
use Rattle.acn_events.specs.Steps.{Room, put}
use Rattle.acn_events.proofs.Joins.{same_state}
use Rattle.acn_bits.specs.Overwrite.{overwritten}

pub puts_join : (a b : List Bool) (m : State) → Room (length a) m → put b (put a m) ≡ put (a ++ b) m
puts_join a b m room =
    let sum = length-append a b in
    same_state (overwritten (overwritten m.buf m.place a) (m.place + length a) b) (overwritten m.buf m.place (a ++ b)) (m.place + length a + length b) (m.place + length (a ++ b)) m.table m.table m.leaves m.leaves m.contents m.contents
    (overwritten-append m.buf m.place a b room) (omega (arith, sum)) refl refl refl

pub rooms_join : (a b : List Bool) (m : State) → Room (length a) m → Room (length b) (put a m) → Room (length (a ++ b)) m
rooms_join a b m room more = (let sum = length-append a b in let long = length-overwritten m.buf m.place a room in omega (arith, sum, long, more))
