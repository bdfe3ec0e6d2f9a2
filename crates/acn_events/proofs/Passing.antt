-- Where events stop, each hole that is open lies behind the writer.
use Rattle.std.proofs.Common.{◌≡◌, ℕ, ◌+◌, ◌≤◌, List, [], ◌∷◌, length, Option, Some, sym, ◌∙◌, subst, arith, inl, inr}
use Rattle.acn_bits.specs.Overwrite.{Gap}
use Rattle.acn_fill.specs.Table.{gap_at}
use Rattle.acn_grammar.specs.Grammar.{Grammar}
use Rattle.acn_grammar.specs.declared.node.SizeRule.{SizeRule}
use Rattle.acn_grammar.specs.declared.node.SizeRule.TheVariants.{Prefix, Slot, Ended}
use Rattle.acn_events.specs.Event.{Event, Frame, State, Halt, base_of}
use Rattle.acn_events.specs.Events.{events}
use Rattle.acn_events.specs.Laws.{EventsAreInOrder, AllPassed, HolesPassed, StopsPassTheirHoles, first_state}
use Rattle.acn_events.specs.Marks.{Mark, marked, first_mark, AllRight}
use Rattle.acn_events.specs.Steps.{Class, Stops}
use Rattle.acn_events.proofs.Standing.{AllStand, FrameStands, GapStands, Stands, first_stands, stands_on}

module _ (root : Grammar) (size : ℕ) where
  stops_stand : (c : Class) (es : List Event) (p : Mark) (m n : State) (h : Halt) → AllRight root es p → Stops c es m n h → Stands root size p m → (q : Mark) × Stands root size q n
  stops_stand c [] p m n h r s a = absurd s
  stops_stand c (e ∷ es) p m n h r (inl s) a = (p, subst (λ (z : State). Stands root size p z) (sym s.0) a)
  stops_stand c (e ∷ es) p m n h r (inr s) a = stops_stand c es (marked e p) s.0 n h r.1 s.2 (stands_on root size e p m s.0 r.0 s.1 a)

  hole_passed : (s : ℕ) (g : Gap) (m : State) (o : Option (Option Gap)) → o ≡ Some (Some g) → GapStands root s o m.leaves m.place → g.place + g.width ≤ m.place
  hole_passed s g m o e h = (subst (λ (z : Option (Option Gap)). GapStands root s z m.leaves m.place) e h).passed

frame_passed : (rule : SizeRule) (f : Frame) (place : ℕ) → f.base ≤ place → FrameStands rule f → (g : Gap) → f.gap ≡ Some g → g.place + g.width ≤ place
frame_passed (Prefix low width) f place l h g e =
    let same : h.0 ≡ g = one (sym h.1 ∙ e) in
    let end = h.3 in
    subst (λ (z : Gap). z.place + z.width ≤ place) same (omega (arith, end, l))
  where
    one : {a b : Gap} → Some a ≡ Some b → a ≡ b
    one e = cc
frame_passed (Slot t) f place l h g e = (let never = sym h ∙ e in cc)
frame_passed (Ended p) f place l h g e = absurd h

frames_passed : (fs : List Frame) (os : List (ℕ × SizeRule)) (place : ℕ) → AllStand fs os → base_of fs ≤ place → AllPassed fs place
frames_passed [] os place h l = tt
frames_passed (f ∷ fs) [] place h l = absurd h
frames_passed (f ∷ fs) (o ∷ os) place h l = (frame_passed o.1 f place l h.1, frames_passed fs os place h.2 (let a = h.0 in omega (arith, a, l)))

stands_passed : (root : Grammar) (size : ℕ) (q : Mark) (n : State) → Stands root size q n → HolesPassed n
stands_passed root size q n a = record {
  slots = λ s g b e. hole_passed root size s g n (gap_at n.table s) e (a.holes s b);
  contents = frames_passed n.contents q.outer n.place a.contents (let e = a.place in omega (arith, e));
}

pub stops_passed : EventsAreInOrder → StopsPassTheirHoles
stops_passed order c root d buf n h accepted shaped stop =
    let o = order root d accepted shaped in
    let r = stops_stand root (length buf) c (events root root [] d) first_mark (first_state buf) n h o.right stop (first_stands root buf) in
    stands_passed root (length buf) r.0 n r.1
