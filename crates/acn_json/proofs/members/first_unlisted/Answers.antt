use Rattle.std.proofs.Common.{length, ap, arith}
use Rattle.acn_json.proofs.Turns.{count-members}
use Rattle.acn_json.proofs.members.first_unlisted.Goals as goal

pub overflow_add-at : goal.overflow_add-at
overflow_add-at c =
    let step = ap length c.in-Some.ensures.steps in
    let few = count-members c.args.members.now.entries in
    let count = c.loop-key.invariant.count in
    let bound = c.requires in
    omega arith
