use Rattle.std.proofs.Common.{rules, arith}
use Rattle.std.proofs.lemmas.Bool.Decides.{nat_tests}
use Rattle.std.proofs.lemmas.Fn.{filter_same}
use Rattle.acn_reads.proofs.Homes.{none_forgotten}
use Rattle.acn_transcode.proofs.slots.forget.Goals as goal

pub returns-then-is_empty : goal.returns-then-is_empty
returns-then-is_empty c = none_forgotten c.args.home.now c.args.slots.now.items (grind (arith, nat_tests))

pub returns : goal.returns
returns c = filter_same _ _ _ (λ x b f' called. search rules) _ _ c.retain.ensures.filtered
