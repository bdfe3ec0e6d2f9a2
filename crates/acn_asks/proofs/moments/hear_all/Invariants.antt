use Rattle.std.proofs.Common.{ℕ, List, Option, take}
use Rattle.std.specs.Prelude.{map}
use Rattle.acn_grammar.specs.Grammar.{Grammar}
use Rattle.acn_asks.specs.Judged.{Judged}
use Rattle.acn_asks.specs.Moments.{moment_of, AreOf}
use Rattle.acn_asks.proofs.moments.hear_all.Given as goal

abbrev pub invariant-loop-at : goal.invariant-loop-at
invariant-loop-at l = (root : Grammar) (slot_at : List ℕ → Option ℕ) → AreOf root slot_at l.moments → Judged root slot_at (map moment_of (take l.at l.moments)) l.heard
