use Rattle.std.proofs.Common.{rules, ℕ, ◌∷◌, [], pos, Option, Some, None, sym, ap, ◌∙◌}
use Rattle.acn_events.specs.Event.{aligns, codes, opens}
use Rattle.acn_events.specs.Events.{inserted_events}
use Rattle.acn_plan.specs.Back.{node_at}
use Rattle.acn_pack.proofs.Fields.{inserted_none}
use Rattle.acn_pack.proofs.Levels.{node_of_number}
use Rattle.acn_pack.proofs.Sounding.{leaf_is_fine}
use Rattle.acn_pack.proofs.Walking.{align_stops}
use Rattle.acn_pack.proofs.Ways.{begin, nothing, then_one, last_one, packs_as}
use Rattle.acn_pack.proofs.parts.put_inserted.Goals as goal

pub returns-in-None : goal.returns-in-None
returns-in-None g c = λ path. nothing (inserted_events c.args.slot (node_at c.args.steps.now c.args.this)) c.args.w.now (inserted_none c.args.slot c.args.steps.now c.args.this c.at-step.result.now c.at-step.ensures c.in-None.ensures.none)

pub open-requires : goal.open-requires
open-requires g c =
    let s = c.requires.sound in
    (search rules, leaf_is_fine s.0 s.1 (node_at c.args.steps.now c.args.this) c.at-step.result.now.align c.in-Some.leaf.now (node_of_number c.args.steps.now c.args.this c.at-step.result.now c.in-Some.leaf.now c.at-step.ensures c.in-Some.ensures.some) s.2)

pub code-requires : goal.code-requires
code-requires g c =
    let s = c.requires.sound in
    (search rules, leaf_is_fine s.0 s.1 (node_at c.args.steps.now c.args.this) c.at-step.result.now.align c.in-Some.leaf.now (node_of_number c.args.steps.now c.args.this c.at-step.result.now c.in-Some.leaf.now c.at-step.ensures c.in-Some.ensures.some) s.2)

pub returns-in_err-align-in-Some : goal.returns-in_err-align-in-Some
returns-in_err-align-in-Some g c = λ path.
    let leaf = c.in-Some.leaf.now in
    let align = c.at-step.result.now.align in
    let is = node_of_number c.args.steps.now c.args.this c.at-step.result.now leaf c.at-step.ensures c.in-Some.ensures.some in
    align_stops c.args.slot align leaf (node_at c.args.steps.now c.args.this) path c.args.w.now c.align.new.self c.align.new.why c.in_err-align-in-Some.field-0.0 c.from_residual.result is c.from_residual.ensures.1 c.in_err-align-in-Some.ensures.halted

pub returns-in-Some-slot : goal.returns-in-Some-slot
returns-in-Some-slot g c = λ path.
    let leaf = c.in-Some.leaf.now in
    let s = c.at-step.result.now in
    let n = node_at c.args.steps.now c.args.this in
    let is = node_of_number c.args.steps.now c.args.this s leaf c.at-step.ensures c.in-Some.ensures.some in
    let whole = aligns s.align ∷ opens c.in-Some-slot.slot leaf ∷ [] in
    packs_as whole (inserted_events c.args.slot n) c.args.w.now c.open.new.self path c.open.new.why c.open.result (ap (inserted_events (Some c.in-Some-slot.slot)) (sym is) ∙ ap (λ (o : Option ℕ). inserted_events o n) (sym c.in-Some-slot.is))
    (last_one whole (λ p. opens c.in-Some-slot.slot leaf) c.args.w.now c.align.new.self c.open.new.self path c.open.new.why c.open.result (then_one whole (opens c.in-Some-slot.slot leaf ∷ []) (λ p. aligns s.align) path c.args.w.now c.args.w.now c.align.new.self (begin whole c.args.w.now) c.in_ok-align-in-Some.ensures.ran) c.open.ensures.ran c.open.ensures.halted)

pub returns-in-None-slot : goal.returns-in-None-slot
returns-in-None-slot g c = λ path.
    let leaf = c.in-Some.leaf.now in
    let s = c.at-step.result.now in
    let n = node_at c.args.steps.now c.args.this in
    let is = node_of_number c.args.steps.now c.args.this s leaf c.at-step.ensures c.in-Some.ensures.some in
    let whole = aligns s.align ∷ codes leaf (pos 0) ∷ [] in
    packs_as whole (inserted_events c.args.slot n) c.args.w.now c.code.new.self path c.code.new.why c.code.result (ap (inserted_events None) (sym is) ∙ ap (λ (o : Option ℕ). inserted_events o n) (sym c.in-None-slot.is))
    (last_one whole (λ p. codes leaf (pos 0)) c.args.w.now c.align.new.self c.code.new.self path c.code.new.why c.code.result (then_one whole (codes leaf (pos 0) ∷ []) (λ p. aligns s.align) path c.args.w.now c.args.w.now c.align.new.self (begin whole c.args.w.now) c.in_ok-align-in-Some.ensures.ran) c.code.ensures.ran c.code.ensures.halted)
