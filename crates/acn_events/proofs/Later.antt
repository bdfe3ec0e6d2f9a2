-- Where events stop, the writer stands within the bits of all of them, and what is behind it is as before.
use Rattle.std.proofs.Common.{◌≡◌, ℕ, ◌≤◌, List, [], ◌∷◌, length, ap, arith, inl, inr}
use Rattle.acn_grammar.specs.Grammar.{Grammar}
use Rattle.acn_events.specs.Event.{Event, State, Halt}
use Rattle.acn_events.specs.Events.{events}
use Rattle.acn_events.specs.Laws.{EventsAreInOrder, StopsKeepWhatIsLater, first_state}
use Rattle.acn_events.specs.Marks.{Mark, marked, ends, first_mark, depth_of, reach, AllRight}
use Rattle.acn_events.specs.Steps.{Class, Stops}
use Rattle.acn_events.proofs.Coming.{reach_grows}
use Rattle.acn_events.proofs.Packets.{Behind, behind_none, behind_on, behind_then}
use Rattle.acn_events.proofs.Standing.{Stands, base_depth, first_stands, stands_on}

-- where the writer stands, of those that end behind so many bits
record Halted (m n : State) (all : ℕ) : Type 0 where
  within : n.place ≤ all
  behind : Behind m n

module _ (root : Grammar) (size : ℕ) where
  place_is : (p : Mark) (m : State) → Stands root size p m → m.place ≡ reach p
  place_is p m h =
      let b = (base_depth m.contents p.outer h.contents).0 in
      let place = h.place in
      omega (arith, b, place)

  stops_later : (c : Class) (es : List Event) (p : Mark) (m n : State) (h : Halt) → AllRight root es p → Stops c es m n h → Stands root size p m → Halted m n (reach (ends es p))
  stops_later c [] p m n h r s a = absurd s
  stops_later c (e ∷ es) p m n h r (inl s) a =
      let grows = reach_grows root (e ∷ es) p r in
      let here = place_is p m a in
      let same = ap (λ (z : State). z.place) s.0 in
      record { within = omega (arith, grows, here, same); behind = behind_none m n same (ap (λ (z : State). z.buf) s.0) }
  stops_later c (e ∷ es) p m n h r (inr s) a =
      let rest = stops_later c es (marked e p) s.0 n h r.1 s.2 (stands_on root size e p m s.0 r.0 s.1 a) in
      record { within = rest.within; behind = behind_then m s.0 n (behind_on root size e p m s.0 r.0 s.1 a) rest.behind }

pub stops_keep : EventsAreInOrder → StopsKeepWhatIsLater
stops_keep order c root d buf n h accepted shaped stop =
    let o = order root d accepted shaped in
    let halted = stops_later root (length buf) c (events root root [] d) first_mark (first_state buf) n h o.right stop (first_stands root buf) in
    let within = halted.within in
    let at = o.at_end in
    let outer = ap depth_of o.outermost in
    record { within = omega (arith, within, at, outer); behind = halted.behind.same }
