use Rattle.std.proofs.Common.{rules}
use Rattle.acn_stream.proofs.Ending.{bounded, never_begun}
use Rattle.acn_stream.proofs.showing.show_all.Goals as goal

pub show_supply-requires-clause-bounded : goal.show_supply-requires-clause-bounded
show_supply-requires-clause-bounded g c = bounded _ c.bounds.result c.bounds.ensures.exact (search rules) c.bounds.ensures.short c.bounds.ensures.between

pub returns-in-Err-clause-ends : goal.returns-in-Err-clause-ends
returns-in-Err-clause-ends g c = never_begun _ _ _ _ _

pub returns-in-Ok-clause-ends : goal.returns-in-Ok-clause-ends
returns-in-Ok-clause-ends g c = rw c.in-Ok.ensures at c.show_supply.ensures.ends
