use Rattle.std.proofs.Common.{ℕ, false, List, [], length, sym, subst}
use Rattle.acn_grammar.specs.View.{data_of}
use Rattle.acn_plan.specs.Back.{root_of}
use Rattle.acn_tree.specs.Room.{HasRoom}
use Rattle.acn_step_breach.proofs.Levels.{some_step}
use Rattle.acn_step_breach.proofs.Rooms.{room_node}
use Rattle.acn_step_breach.proofs.Tops.{root_breaks}
use Rattle.acn_step_breach.proofs.Turns.{meets_all}
use Rattle.acn_step_breach.proofs.breach.breach_of.Goals as goal

pub node_meets-requires : goal.node_meets-requires
node_meets-requires c =
    let steps = c.steps-steps.result.now in
    let made = c.steps-steps.ensures.made in
    record {
      made = made;
      there = some_step steps made;
      room = subst (λ (p : List ℕ). HasRoom (length p) (root_of steps)) (sym c.new.ensures) (room_node (root_of steps) (root_of steps) 0 [] (λ s. false) (c.accepted_is_sound.ensures (root_of steps) made.accepted));
    }

pub returns-in-Ok-clause-answer : goal.returns-in-Ok-clause-answer
returns-in-Ok-clause-answer c =
    root_breaks _ c.steps-steps.result.now c.args.plan.now.steps c.new.result (data_of c.args.v.now) c.steps-steps.ensures.same c.new.ensures c.in-Ok.ensures.answer

pub returns-in-Ok-clause-meets : goal.returns-in-Ok-clause-meets
returns-in-Ok-clause-meets c shaped =
    meets_all (root_of c.args.plan.now.steps) (data_of c.args.v.now)
    (root_breaks _ c.steps-steps.result.now c.args.plan.now.steps c.new.result (data_of c.args.v.now) c.steps-steps.ensures.same c.new.ensures c.in-Ok.ensures.answer) shaped
