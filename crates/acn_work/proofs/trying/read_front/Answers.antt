use Rattle.acn_num.specs.Bits.{bits}
use Rattle.acn_plan.specs.Back.{root_of}
use Rattle.acn_work.proofs.Reading.{only_memory}
use Rattle.acn_work.proofs.trying.read_front.Goals as goal

pub no_memory-requires : goal.no_memory-requires
no_memory-requires c =
    let root = root_of c.args.plan.now.steps in
    let said = rw c.steps-steps.ensures.same at c.steps-steps.ensures.made.said in
    only_memory root (bits c.args.octets.now) c.in-Err.refuse (c.in-Err.ensures.only root said) c.requires.there

pub returns-in-Ok : goal.returns-in-Ok
returns-in-Ok c =
    let root = root_of c.args.plan.now.steps in
    let said = rw c.steps-steps.ensures.same at c.steps-steps.ensures.made.said in
    c.in-Ok.ensures.alone root said
