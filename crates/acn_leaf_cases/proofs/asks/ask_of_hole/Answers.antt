use Rattle.std.proofs.Common.{rules, ◌≡◌, ◌∷◌, [], Some, ◌∙◌}
use Rattle.acn_fill.specs.Table.{frames}
use Rattle.acn_leaf_cases.proofs.OneSlot.{hole_there, none_begun, one_begun}
use Rattle.acn_leaf_cases.proofs.asks.ask_of_hole.Goals as goal

pub finish-hole-requires : goal.finish-hole-requires
finish-hole-requires c =
    let slots : frames c.ask_all-asked.new.fills.spots ≡ 0 ∷ [] = c.ask_all-asked.ensures.slots ∙ search rules in
    let gaps : c.ask_all-asked.new.fills.gaps ≡ Some c.hole-hole.result ∷ [] = c.ask_all-asked.ensures.holes ∙ search rules in
    let begun = one_begun c.ask_all-asked.new.fills slots in
    let there = hole_there c.ask_all-asked.new.fills c.hole-hole.result slots gaps in
    search (rules, begun, there)

pub close-requires : goal.close-requires
close-requires c =
    let slots : frames c.ask_all-asked.new.fills.spots ≡ 0 ∷ [] = c.ask_all-asked.ensures.slots ∙ search rules in
    let none = none_begun c.ask_all-asked.new.fills c.finish-hole.new.self slots c.finish-hole.ensures.few in
    search (rules, none)
