use Rattle.std.proofs.Common.{subst}
use Rattle.acn_grammar.specs.View.{grammar_of}
use Rattle.acn_compare.specs.Judging.{IsJudged}
use Rattle.acn_compare.proofs.Finding.{agree_next}
use Rattle.acn_compare.proofs.comparing.first_found.Goals as goal

pub loop-place-preserved : goal.loop-place-preserved
loop-place-preserved c = λ by tells.
    agree_next by c.loop-place.place-index c.args.places.now c.place-item.result c.loop-place-test.true c.place-item.is (c.loop-place.invariant by tells)
    (subst (IsJudged by (grammar_of c.place-item.result.old.now) (grammar_of c.place-item.result.new.now)) c.in-None.is (c.in_ok-difference.ensures by tells))
