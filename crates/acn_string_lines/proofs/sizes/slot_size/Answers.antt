use Rattle.std.proofs.Common.{rules, Some, sym, ap, ◌∙◌}
use Rattle.std.proofs.lemmas.Int.{to_z-of_z}
use Rattle.std.specs.Int.{w128}
use Rattle.acn_text.proofs.Fine.{sizing_few}
use Rattle.acn_string_lines.proofs.SizesRead.{slot_said}
use Rattle.acn_string_lines.proofs.sizes.slot_size.Goals as goal

pub returns-then-holds_natural-clause-few : goal.returns-then-holds_natural-clause-few
returns-then-holds_natural-clause-few c = sizing_few c.args.sizing.now c.in-Some-natural.n c.requires.fine (sym c.holds_natural.ensures ∙ c.if-holds_natural.true)

pub returns-then-holds_natural-clause-read : goal.returns-then-holds_natural-clause-read
returns-then-holds_natural-clause-read c cur =
    let plain = to_z-of_z w128 c.in-Some.x (record { sfits = search rules }) in
    slot_said c.args.sizing.now c.args.slot c.in-Some-natural.n c.args.slots.now cur c.requires.rule (sym c.holds_natural.ensures ∙ c.if-holds_natural.true) (sym c.number_at.ensures ∙ (c.in-Some.is ∙ ap Some (sym plain ∙ c.in-Some-natural.ensures)))
