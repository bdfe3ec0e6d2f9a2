-- Events one behind another.
use Rattle.std.proofs.Common.{◌≡◌, ℕ, Bool, List, [], ◌∷◌, ◌++◌, refl, ap, ◌∙◌, subst, inl, inr}
use Rattle.acn_fill.specs.Table.{Table}
use Rattle.acn_grammar.specs.declared.node.NumLeaf.{NumLeaf}
use Rattle.acn_events.specs.Event.{Event, Frame, State, Halt}
use Rattle.acn_events.specs.Laws.{RunsJoin}
use Rattle.acn_events.specs.Steps.{Class, Step, Run, Halts, Stops}

pub run_then : (a b : List Event) (m n o : State) → Run a m n → Run b n o → Run (a ++ b) m o
run_then [] b m n o r s = subst (λ (z : State). Run b z o) r s
run_then (e ∷ a) b m n o r s = (r.0, r.1, run_then a b r.0 n o r.2 s)

pub run_one : (e : Event) (m n : State) → Step e m n → Run (e ∷ []) m n
run_one e m n s = (n, s, refl)

pub stops_then : (c : Class) (a b : List Event) (m n o : State) (h : Halt) → Run a m n → Stops c b n o h → Stops c (a ++ b) m o h
stops_then c [] b m n o h r s = subst (λ (z : State). Stops c b z o h) r s
stops_then c (e ∷ a) b m n o h r s = inr (r.0, r.1, stops_then c a b r.0 n o h r.2 s)

pub stops_front : (c : Class) (a b : List Event) (m n : State) (h : Halt) → Stops c a m n h → Stops c (a ++ b) m n h
stops_front c [] b m n h s = absurd s
stops_front c (e ∷ a) b m n h (inl s) = inl s
stops_front c (e ∷ a) b m n h (inr s) = inr (s.0, s.1, stops_front c a b s.0 n h s.2)

pub stops_one : (c : Class) (e : Event) (es : List Event) (m : State) (h : Halt) → Halts c e m h → Stops c (e ∷ es) m m h
stops_one c e es m h s = inl (refl, s)

-- States with the same parts are the same.

abbrev pub a_state : List Bool → ℕ → Table → List (ℕ × NumLeaf) → List Frame → State
a_state buf place table leaves contents = record { buf = buf; place = place; table = table; leaves = leaves; contents = contents }

pub same_state : (b b' : List Bool) (p p' : ℕ) (t t' : Table) (l l' : List (ℕ × NumLeaf)) (c c' : List Frame) → b ≡ b' → p ≡ p' → t ≡ t' → l ≡ l' → c ≡ c' → a_state b p t l c ≡ a_state b' p' t' l' c'
same_state b b' p p' t t' l l' c c' e f g h i =
    ap (λ z. a_state z p t l c) e ∙ (ap (λ z. a_state b' z t l c) f ∙ (ap (λ z. a_state b' p' z l c) g ∙ (ap (λ z. a_state b' p' t' z c) h ∙ ap (λ z. a_state b' p' t' l' z) i)))

pub runs_join : RunsJoin
runs_join = record { run = run_then; stop = stops_then; front = stops_front }
