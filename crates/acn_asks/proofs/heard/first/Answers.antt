use Rattle.acn_grammar.specs.Faults.{ask_of}
use Rattle.acn_asks.proofs.Steps.{nothing_meets}
use Rattle.acn_asks.proofs.heard.first.Goals as goal

pub returns-in-None-clause-refused : goal.returns-in-None-clause-refused
returns-in-None-clause-refused c = nothing_meets c.args.set.now (c.in-None.ensures {u = tt}) (ask_of c.args.wanted.now)
