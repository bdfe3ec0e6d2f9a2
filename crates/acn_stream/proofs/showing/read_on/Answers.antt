use Rattle.std.proofs.Common.{refl}
use Rattle.acn_stream.proofs.Ending.{ended, cut_off, passed}
use Rattle.acn_stream.proofs.showing.read_on.Goals as goal

pub returns-in-Ok-End-clause-goes_on : goal.returns-in-Ok-End-clause-goes_on
returns-in-Ok-End-clause-goes_on g c grammar shown limit i o o' so p =
    rw c.at_end.ensures (ended grammar shown limit i _ _ o o' _ c.more.new.self _ c.args.wanting so p (rw c.in-Ok-End.field-0-is at c.in-Ok-End.ensures.read))

pub returns-in-Ok-PastLimit-clause-goes_on : goal.returns-in-Ok-PastLimit-clause-goes_on
returns-in-Ok-PastLimit-clause-goes_on g c grammar shown limit i o o' so p =
    passed grammar shown limit i _ _ o o' _ c.more.new.self _ c.args.wanting so p (rw c.in-Ok-PastLimit.field-0-is at c.in-Ok-PastLimit.ensures.read)

pub returns-in-Err-clause-goes_on : goal.returns-in-Err-clause-goes_on
returns-in-Err-clause-goes_on g c grammar shown limit i o o' so p = cut_off grammar shown limit i _ _ o o' _ _ c.args.wanting so p c.in-Err.ensures.read.1

pub returns-in-Err-clause-stays : goal.returns-in-Err-clause-stays
returns-in-Err-clause-stays g c h = absurd (h refl)
