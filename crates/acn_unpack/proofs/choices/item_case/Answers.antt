use Rattle.std.proofs.lemmas.Int.{to_z-of_z}
use Rattle.std.specs.Int.{w128}
use Rattle.std.proofs.Common.{◌∙◌, sym, ap, rules, ℤ}
use Rattle.acn_plan.specs.Back.{root_of, cases_at, case_items}
use Rattle.acn_unpack.specs.Items.{first_item}
use Rattle.acn_unpack.proofs.ItemCases.{items_answer}
use Rattle.acn_unpack.proofs.choices.item_case.Goals as goal

pub returns : goal.returns
returns c =
    items_answer (root_of c.args.steps.now) (c.accepted_is_sound.ensures (root_of c.args.steps.now) c.requires.made.accepted) c.args.slot c.args.slots.now c.in-Some.x (sym c.number_at.ensures ∙ c.in-Some.is) (cases_at c.args.steps.now c.args.first c.args.end) (case_items c.args.steps.now c.args.first c.args.end) c.first_of_item.result c.requires.items
    (c.first_of_item.ensures ∙ ap (λ (z : ℤ). first_item z 0 (case_items c.args.steps.now c.args.first c.args.end)) (to_z-of_z w128 c.in-Some.x (record { sfits = search rules })))
