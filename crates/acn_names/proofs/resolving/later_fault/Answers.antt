use Rattle.std.proofs.Common.{◌≡◌}
use Rattle.acn_index.specs.Views.{index_view}
use Rattle.acn_names.proofs.Faulty.{late_answer, cycle_tells}
use Rattle.acn_names.proofs.resolving.later_fault.Goals as goal

pub returns-in-None : goal.returns-in-None
returns-in-None c = late_answer (index_view c.args.index.now) c.requires (rw c.in-None.is at c.in_ok-first_cycle.ensures.exact) c.late_fault.result c.late_fault.ensures

pub returns-in_ok-fault-in-Some : goal.returns-in_ok-fault-in-Some
returns-in_ok-fault-in-Some c =
    let cyclic = rw c.in-Some.is at c.in_ok-first_cycle.ensures.exact in
    cycle_tells (index_view c.args.index.now) c.requires c.in-Some.round.first c.in-Some.round.way cyclic c.in_ok-fault-in-Some.fault (c.in_ok-fault-in-Some.ensures {u = tt})
