use Rattle.std.proofs.Common.{sym, subst}
use Rattle.acn_asks.specs.Judged.{Judged}
use Rattle.acn_asks.specs.Moments.{moment_of}
use Rattle.std.proofs.Common.{◌++◌, ◌∷◌, []}
use Rattle.acn_asks.proofs.Walked.{judged_count}
use Rattle.acn_asks.proofs.moments.hear_moment.Goals as goal

pub returns-then-holds_natural-clause-judged : goal.returns-then-holds_natural-clause-judged
returns-then-holds_natural-clause-judged c = λ root slot_at before is j.
    subst (λ m. Judged root slot_at (before ++ moment_of m ∷ []) c.args.heard.now) (sym c.in-Counts.is)
    (judged_count root slot_at c.in-Counts.path c.in-Counts.octets _ before c.args.heard.now (sym (c.if-holds_natural.ensures {u = tt})) j)
