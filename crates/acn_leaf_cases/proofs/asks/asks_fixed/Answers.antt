use Rattle.std.proofs.Common.{rules, ◌≡◌, ◌∷◌, [], None, ◌∙◌}
use Rattle.acn_fill.specs.Table.{frames}
use Rattle.acn_leaf_cases.proofs.OneSlot.{none_begun, one_begun, one_gap}
use Rattle.acn_leaf_cases.proofs.asks.asks_fixed.Goals as goal

pub finish_fixed-requires : goal.finish_fixed-requires
finish_fixed-requires c =
    let slots : frames c.ask_all-asked.new.fills.spots ≡ 0 ∷ [] = c.ask_all-asked.ensures.slots ∙ search rules in
    let gaps : c.ask_all-asked.new.fills.gaps ≡ None ∷ [] = c.ask_all-asked.ensures.holes ∙ search rules in
    let begun = one_begun c.ask_all-asked.new.fills slots in
    let gap = one_gap c.ask_all-asked.new.fills None slots gaps in
    search (rules, begun, gap)

pub close-requires : goal.close-requires
close-requires c =
    let slots : frames c.ask_all-asked.new.fills.spots ≡ 0 ∷ [] = c.ask_all-asked.ensures.slots ∙ search rules in
    let none = none_begun c.ask_all-asked.new.fills c.finish_fixed.new.self slots c.finish_fixed.ensures.few in
    search (rules, none)
