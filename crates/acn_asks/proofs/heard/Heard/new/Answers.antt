use Rattle.std.proofs.Common.{ap}
use Rattle.acn_asks.proofs.Fields.{seen}
use Rattle.acn_asks.proofs.Walked.{judged_none}
use Rattle.acn_asks.proofs.heard.Heard.new.Goals as goal

pub returns-clause-judged : goal.returns-clause-judged
returns-clause-judged c = λ root slot_at. judged_none root slot_at _ (ap (seen (λ k. k.items)) c.new.ensures.empty)
