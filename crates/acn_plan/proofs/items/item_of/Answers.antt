use Rattle.std.proofs.Common.{sym, ◌∙◌}
use Rattle.acn_plan.specs.Program.{item_places}
use Rattle.acn_plan.proofs.ItemNames.{found, item_below, fits}
use Rattle.acn_plan.proofs.items.item_of.Goals as goal

pub returns-in-Some : goal.returns-in-Some
returns-in-Some c = λ root few e.
    let there = sym c.in-Some.is ∙ (c.get.ensures.first (item_places root c.args.rule.now) e ∙ found root c.args.rule.now c.args.name.now) in
    let below = item_below root c.args.rule.now c.args.name.now c.in-Some.index few (sym there) in
    c.ok.ensures.value ∙ (fits c.try_from.result c.in-Some.index c.try_from.ensures below ∙ there)

pub returns-in-None : goal.returns-in-None
returns-in-None c = λ root few e. sym c.in-None.is ∙ (c.get.ensures.first (item_places root c.args.rule.now) e ∙ found root c.args.rule.now c.args.name.now)
