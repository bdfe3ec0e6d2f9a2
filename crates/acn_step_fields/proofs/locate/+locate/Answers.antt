use Rattle.std.proofs.Common.{ℕ, List, true, false, suc, ◌+◌, ◌++◌, ◌∷◌, [], length, drop, option_map, sym, ap, subst, ◌∙◌, arith, drop_of_length-le}
use Rattle.std.specs.Prelude.{is_some}
use Rattle.acn_events.specs.Located.{behind, here, located}
use Rattle.acn_grammar.specs.Paths.{part_node}
use Rattle.acn_plan.specs.Back.{node_at}
use Rattle.acn_tree.specs.Room.{HasRoom}
use Rattle.acn_step_breach.proofs.Levels.{room_depth, child_room}
use Rattle.acn_step_fields.proofs.Parts.{part_room}
use Rattle.acn_step_fields.proofs.Soughts.{found_first, found_later, stays, put_back, one_more, same_found, part_is, no_part, below, step_there}
use Rattle.acn_step_fields.proofs.locate.+locate.Goals as goal

pub locate_from-locate_inside-requires : goal.locate_from-locate_inside-requires
locate_from-locate_inside-requires t c = (omega arith, (c.requires.made, (c.requires.there, (c.step_at-step.ensures, c.requires.room))))

pub locate_from-from_here-requires : goal.locate_from-from_here-requires
locate_from-from_here-requires t c =
    let is = sym c.locate_inside.ensures.found ∙ c.if-locate_inside.false in
    record {
      made = c.requires.made;
      there = c.requires.there;
      is = c.step_at-step.ensures;
      room = subst (λ (p : List ℕ). HasRoom (length p) (node_at c.args.steps.now c.args.this)) (sym (c.locate_inside.ensures.path ∙ stays c.args.field.now _ is)) c.requires.room;
    }

pub locate_from-returns-then-locate_inside-clause-found : goal.locate_from-returns-then-locate_inside-clause-found
locate_from-returns-then-locate_inside-clause-found t c =
    let is = sym c.locate_inside.ensures.found ∙ c.if-locate_inside.true in
    sym is ∙ ap is_some (sym (found_first _ (here (node_at c.args.steps.now c.args.this) c.args.slot) is))

pub locate_from-returns-then-locate_inside-clause-path : goal.locate_from-returns-then-locate_inside-clause-path
locate_from-returns-then-locate_inside-clause-path t c =
    let is = sym c.locate_inside.ensures.found ∙ c.if-locate_inside.true in
    c.locate_inside.ensures.path ∙ ap (λ x. behind c.args.field.now x c.args.field.now) (sym (found_first _ (here (node_at c.args.steps.now c.args.this) c.args.slot) is))

pub locate_from-returns-clause-found : goal.locate_from-returns-clause-found
locate_from-returns-clause-found t c =
    let is = sym c.locate_inside.ensures.found ∙ c.if-locate_inside.false in
    c.from_here.ensures.found ∙ ap is_some (sym (found_later _ (here (node_at c.args.steps.now c.args.this) c.args.slot) is))

pub locate_from-returns-clause-path : goal.locate_from-returns-clause-path
locate_from-returns-clause-path t c =
    let is = sym c.locate_inside.ensures.found ∙ c.if-locate_inside.false in
    c.from_here.ensures.path
    ∙ (ap (λ (p : List ℕ). behind p (here (node_at c.args.steps.now c.args.this) c.args.slot) p) (c.locate_inside.ensures.path ∙ stays c.args.field.now _ is)
    ∙ ap (λ x. behind c.args.field.now x c.args.field.now) (sym (found_later _ (here (node_at c.args.steps.now c.args.this) c.args.slot) is)))

pub locate_inside-locate_step-requires : goal.locate_inside-locate_step-requires
locate_inside-locate_step-requires t c =
    (omega arith, (c.requires.made, (c.in-Some.ensures.inside, part_room (node_at c.args.steps.now c.args.this) c.args.number (length c.args.field.now) (node_at c.args.steps.now c.in-Some.inside) c.requires.room c.in-Some.ensures.is)))

pub locate_inside-returns-in-Some-clause-found : goal.locate_inside-returns-in-Some-clause-found
locate_inside-returns-in-Some-clause-found t c =
    c.locate_step.ensures.found ∙ (ap is_some (sym (part_is (part_node (node_at c.args.steps.now c.args.this) c.args.number) (node_at c.args.steps.now c.in-Some.inside) (drop c.args.depth c.args.asked.now) c.args.slot c.in-Some.ensures.is)) ∙ sym (same_found c.args.number _))

pub locate_inside-returns-in-Some-clause-path : goal.locate_inside-returns-in-Some-clause-path
locate_inside-returns-in-Some-clause-path t c =
    c.locate_step.ensures.path ∙ ap (λ x. behind c.args.field.now (option_map (λ f. c.args.number ∷ f) x) c.args.field.now) (sym (part_is (part_node (node_at c.args.steps.now c.args.this) c.args.number) (node_at c.args.steps.now c.in-Some.inside) (drop c.args.depth c.args.asked.now) c.args.slot c.in-Some.ensures.is))

pub locate_inside-returns-in-None-clause-found : goal.locate_inside-returns-in-None-clause-found
locate_inside-returns-in-None-clause-found t c =
    ap (λ x. is_some (option_map (λ (f : List ℕ). c.args.number ∷ f) x)) (sym (no_part (part_node (node_at c.args.steps.now c.args.this) c.args.number) (drop c.args.depth c.args.asked.now) c.args.slot c.in-None.ensures.is))

pub locate_inside-returns-in-None-clause-path : goal.locate_inside-returns-in-None-clause-path
locate_inside-returns-in-None-clause-path t c =
    ap (λ x. behind c.args.field.now (option_map (λ f. c.args.number ∷ f) x) c.args.field.now) (sym (no_part (part_node (node_at c.args.steps.now c.args.this) c.args.number) (drop c.args.depth c.args.asked.now) c.args.slot c.in-None.ensures.is))

pub locate_step-push-requires : goal.locate_step-push-requires
locate_step-push-requires t c = (let d = room_depth (node_at c.args.steps.now c.args.inside) (suc (length c.args.field.now)) c.requires.room in omega (arith, d))

pub locate_step-locate-requires : goal.locate_step-locate-requires
locate_step-locate-requires t c =
    (omega arith, (c.requires.made, (c.requires.there, child_room (node_at c.args.steps.now c.args.inside) c.args.field.now c.push.new.self c.args.number c.push.ensures c.requires.room)))

pub locate_step-returns-then-locate-clause-path : goal.locate_step-returns-then-locate-clause-path
locate_step-returns-then-locate-clause-path t c =
    let is = sym c.locate.ensures.found ∙ c.if-locate.true in
    c.locate.ensures.path
    ∙ (ap (λ (p : List ℕ). behind p (located (node_at c.args.steps.now c.args.inside) (drop c.args.depth c.args.asked.now) c.args.slot) p) c.push.ensures
    ∙ one_more c.args.field.now (c.args.field.now ++ c.args.number ∷ []) c.args.number (located (node_at c.args.steps.now c.args.inside) (drop c.args.depth c.args.asked.now) c.args.slot) is)

pub locate_step-returns-clause-path : goal.locate_step-returns-clause-path
locate_step-returns-clause-path t c =
    let is = sym c.locate.ensures.found ∙ c.if-locate.false in
    put_back _ _ _ c.args.field.now c.args.number c.pop.ensures (c.locate.ensures.path ∙ (stays c.push.new.self _ is ∙ c.push.ensures)) ∙ sym (stays c.args.field.now _ (same_found c.args.number _ ∙ is))

pub locate-locate_from-requires : goal.locate-locate_from-requires
locate-locate_from-requires t c =
    let there = c.in-Some.ensures.lookup in
    let a = below c.args.depth (length c.args.asked.now) there.0 in
    (omega (arith, a), (c.requires.made, (c.requires.there, c.requires.room)))

pub locate-returns-in-Some-clause-found : goal.locate-returns-in-Some-clause-found
locate-returns-in-Some-clause-found t c =
    let there = c.in-Some.ensures.lookup in
    let a = below c.args.depth (length c.args.asked.now) there.0 in
    c.locate_from.ensures.found ∙ ap (λ (p : List ℕ). is_some (located (node_at c.args.steps.now c.args.this) p c.args.slot)) (sym (step_there c.args.asked.now c.args.depth c.in-Some.number.now a there.1))

pub locate-returns-in-Some-clause-path : goal.locate-returns-in-Some-clause-path
locate-returns-in-Some-clause-path t c =
    let there = c.in-Some.ensures.lookup in
    let a = below c.args.depth (length c.args.asked.now) there.0 in
    c.locate_from.ensures.path ∙ ap (λ (p : List ℕ). behind c.args.field.now (located (node_at c.args.steps.now c.args.this) p c.args.slot) c.args.field.now) (sym (step_there c.args.asked.now c.args.depth c.in-Some.number.now a there.1))

pub locate-returns-in-None-clause-found : goal.locate-returns-in-None-clause-found
locate-returns-in-None-clause-found t c =
    let past = (c.in-None.ensures {u = tt}).lookup.3 in
    ap (λ (p : List ℕ). is_some (located (node_at c.args.steps.now c.args.this) p c.args.slot)) (sym (drop_of_length-le c.args.asked.now past))

pub locate-returns-in-None-clause-path : goal.locate-returns-in-None-clause-path
locate-returns-in-None-clause-path t c =
    let past = (c.in-None.ensures {u = tt}).lookup.3 in
    ap (λ (p : List ℕ). behind c.args.field.now (located (node_at c.args.steps.now c.args.this) p c.args.slot) c.args.field.now) (sym (drop_of_length-le c.args.asked.now past))
