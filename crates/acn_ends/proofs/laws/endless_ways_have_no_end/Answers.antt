use Rattle.std.proofs.Common.{suc}
use Rattle.acn_ends.proofs.Leading.{leads}
use Rattle.acn_ends.proofs.Ways.{round_endless}
use Rattle.acn_ends.proofs.laws.endless_ways_have_no_end.Goals as goal

pub returns : goal.returns
returns c = λ next n p round. round_endless next n p (leads next (suc n) p p round)
