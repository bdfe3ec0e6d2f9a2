use Rattle.acn_grammar.specs.Faults.{unfit_of}
use Rattle.acn_grammar.specs.View.{data_of}
use Rattle.acn_plan.specs.Back.{root_of}
use Rattle.acn_packing.proofs.Halting.{breached, is_refused, is_refused_for, is_said, refused_so}
use Rattle.acn_packing.proofs.refusal.refusal.Goals as goal

pub said-requires : goal.said-requires
said-requires c =
    let root = root_of c.args.plan.now.steps in
    let d = data_of c.args.v.now in
    is_said root d c.args.path c.args.halt c.requires.ends.other
    (is_refused c.stops_are_refusals.ensures c.no_fault_without_a_first.ensures c.each_path_has_its_number.ensures c.values_lie_within_bounds.ensures root d c.args.path c.args.halt c.args.plan.now.made.accepted (c.in-None.ensures.meets c.requires.shaped) c.requires.ends)

pub returns-in-Some : goal.returns-in-Some
returns-in-Some c =
    let root = root_of c.args.plan.now.steps in
    let d = data_of c.args.v.now in
    is_refused_for c.one_refusal.ensures c.refused_is_not_spelled.ensures root d _ c.args.plan.now.made.accepted (breached root d _ c.in-Some.ensures.answer)

pub returns-in-None : goal.returns-in-None
returns-in-None c =
    let root = root_of c.args.plan.now.steps in
    let d = data_of c.args.v.now in
    is_refused_for c.one_refusal.ensures c.refused_is_not_spelled.ensures root d (unfit_of c.said.result) c.args.plan.now.made.accepted
    (refused_so root d c.args.path c.args.halt (unfit_of c.said.result)
    (is_refused c.stops_are_refusals.ensures c.no_fault_without_a_first.ensures c.each_path_has_its_number.ensures c.values_lie_within_bounds.ensures root d c.args.path c.args.halt c.args.plan.now.made.accepted (c.in-None.ensures.meets c.requires.shaped) c.requires.ends)
    c.said.ensures)
