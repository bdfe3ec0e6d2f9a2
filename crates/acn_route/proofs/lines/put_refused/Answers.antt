use Rattle.acn_route.proofs.LineTexts.{bad_line}
use Rattle.acn_route.proofs.lines.put_refused.Goals as goal

pub returns-in_ok-put_bad-in-Bad-clause-added : goal.returns-in_ok-put_bad-in-Bad-clause-added
returns-in_ok-put_bad-in-Bad-clause-added c =
    let refused = rw c.in-Bad.is at c.requires.refused in
    bad_line _ _ _ _ _ refused.0 _ c.requires.named refused.1 c.in_ok-put_bad-in-Bad.ensures.added
