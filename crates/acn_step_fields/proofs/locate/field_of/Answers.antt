use Rattle.std.proofs.Common.{ℕ, false, List, [], length, drop, sym, ap, subst, ◌∙◌}
use Rattle.acn_events.specs.Located.{behind, located}
use Rattle.acn_plan.specs.Back.{root_of, node_at}
use Rattle.acn_plan.specs.declared.step.Step.{Step}
use Rattle.acn_tree.specs.Room.{HasRoom}
use Rattle.acn_step_breach.proofs.Levels.{some_step}
use Rattle.acn_step_breach.proofs.Rooms.{room_node}
use Rattle.acn_step_fields.proofs.locate.field_of.Goals as goal

pub locate-found-requires : goal.locate-found-requires
locate-found-requires c =
    let steps = c.steps-steps.result.now in
    let made = c.steps-steps.ensures.made in
    record {
      made = made;
      there = some_step steps made;
      room = subst (λ (p : List ℕ). HasRoom (length p) (root_of steps)) (sym c.new.ensures) (room_node (root_of steps) (root_of steps) 0 [] (λ s. false) (c.accepted_is_sound.ensures (root_of steps) made.accepted));
    }

pub returns : goal.returns
returns c =
    c.locate-found.ensures.path
    ∙ (ap (λ (p : List ℕ). behind p (located (node_at c.steps-steps.result.now 0) (drop 0 c.steps-asked.result.now) c.args.slot) p) c.new.ensures
    ∙ (ap (λ (p : List ℕ). behind [] (located (node_at c.steps-steps.result.now 0) p c.args.slot) []) c.steps-asked.ensures
    ∙ ap (λ (x : List Step). behind [] (located (node_at x 0) c.args.asked.now c.args.slot) []) c.steps-steps.ensures.same))
