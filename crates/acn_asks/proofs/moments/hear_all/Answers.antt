use Rattle.std.proofs.Common.{sym, subst, arith}
use Rattle.acn_asks.specs.Moments.{HaltsAt}
use Rattle.acn_asks.proofs.Turns.{heard_stop, heard_all}
use Rattle.acn_asks.proofs.moments.hear_all.Goals as goal

pub returns-in-Err-clause-unmet : goal.returns-in-Err-clause-unmet
returns-in-Err-clause-unmet c =
    subst (λ h. HaltsAt c.args.moments.now h) (sym c.halt_at.ensures)
    (heard_stop c.args.moments.now c.loop-at.at c.index-moments-at.result _ c.loop-at.heard c.in-Err.unmet c.loop-at-test.true c.index-moments-at.is c.loop-at.invariant (c.in-Err.ensures {u = tt}).unmet)

pub returns-clause-judged : goal.returns-clause-judged
returns-clause-judged c = heard_all c.args.moments.now c.loop-at.at c.loop-at.heard (omega arith) c.loop-at.invariant
