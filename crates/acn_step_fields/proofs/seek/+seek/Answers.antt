use Rattle.std.proofs.Common.{ℕ, List, true, false, suc, ◌+◌, ◌++◌, ◌∷◌, [], length, option_map, sym, ap, subst, ◌∙◌, arith}
use Rattle.std.specs.Prelude.{is_some}
use Rattle.acn_events.specs.Located.{behind}
use Rattle.acn_grammar.specs.Asks.{steps_to}
use Rattle.acn_step_fields.specs.Sought.{field_steps_by}
use Rattle.acn_plan.specs.Back.{node_at, form_at, fields_at}
use Rattle.acn_plan.specs.declared.step.Act.TheVariants as acts
use Rattle.acn_plan.proofs.Mades.{made_nested}
use Rattle.acn_tree.specs.Room.{HasRoom}
use Rattle.acn_step_breach.proofs.FieldTurns.{step_room}
use Rattle.acn_step_breach.proofs.Levels.{form_by, body_room, room_depth, child_room, seq_room}
use Rattle.acn_step_fields.proofs.Soughts.{found_first, found_later, stays, sought, not_sought, put_back, one_more, same_found, step_more, step_none, step_with, step_without}
use Rattle.acn_step_fields.proofs.seek.+seek.Goals as goal

pub seek-seek_by-requires : goal.seek-seek_by-requires
seek-seek_by-requires t c =
    let l = c.loop-this in
    let a = c.loop-this-test.true in
    let b = c.requires.within in
    let e = l.invariant.from in
    let up = (made_nested c.args.steps.now c.requires.made l.this c.step_at-step.result.now c.step_at-step.ensures).behind in
    let r = step_room c.args.steps.now l.this c.args.end c.step_at-step.result.now c.step_at-step.ensures a up (suc (length c.args.path.now)) l.invariant.room in
    (omega (arith, a, b, e), (c.requires.made, (omega (arith, a, b), (c.step_at-step.ensures, subst (λ (p : List ℕ). HasRoom (suc (length p)) (node_at c.args.steps.now l.this)) (sym l.invariant.path) r.0))))

pub seek-returns-then-seek_by-clause-found : goal.seek-returns-then-seek_by-clause-found
seek-returns-then-seek_by-clause-found t c =
    let l = c.loop-this in
    let up = (made_nested c.args.steps.now c.requires.made l.this c.step_at-step.result.now c.step_at-step.ensures).behind in
    let is = sym c.seek_by.ensures.found ∙ c.if-seek_by.true in
    let more = step_more c.args.steps.now l.this c.args.end c.step_at-step.result.now l.number c.args.slot c.step_at-step.ensures c.loop-this-test.true up ∙ found_first _ _ is in
    sym is ∙ ap is_some (sym more ∙ l.invariant.same)

pub seek-returns-then-seek_by-clause-path : goal.seek-returns-then-seek_by-clause-path
seek-returns-then-seek_by-clause-path t c =
    let l = c.loop-this in
    let up = (made_nested c.args.steps.now c.requires.made l.this c.step_at-step.result.now c.step_at-step.ensures).behind in
    let is = sym c.seek_by.ensures.found ∙ c.if-seek_by.true in
    let more = step_more c.args.steps.now l.this c.args.end c.step_at-step.result.now l.number c.args.slot c.step_at-step.ensures c.loop-this-test.true up ∙ found_first _ _ is in
    c.seek_by.ensures.path ∙ (ap (λ (x : List ℕ). behind x (field_steps_by c.step_at-step.result.now.place (node_at c.args.steps.now l.this) l.number c.args.slot) x) l.invariant.path ∙ ap (λ x. behind c.args.path.now x c.args.path.now) (sym more ∙ l.invariant.same))

pub seek-loop-this-preserved : goal.seek-loop-this-preserved
seek-loop-this-preserved t c =
    let l = c.loop-this in
    let up = (made_nested c.args.steps.now c.requires.made l.this c.step_at-step.result.now c.step_at-step.ensures).behind in
    let is = sym c.seek_by.ensures.found ∙ c.if-seek_by.false in
    let more = step_more c.args.steps.now l.this c.args.end c.step_at-step.result.now l.number c.args.slot c.step_at-step.ensures c.loop-this-test.true up ∙ found_later _ _ is in
    let e = l.invariant.from in
    let f = l.invariant.few in
    record {
      from = omega (arith, up, e);
      few = omega (arith, up, f);
      path = c.seek_by.ensures.path ∙ (stays l.path _ is ∙ l.invariant.path);
      room = (step_room c.args.steps.now l.this c.args.end c.step_at-step.result.now c.step_at-step.ensures c.loop-this-test.true up (suc (length c.args.path.now)) l.invariant.room).1;
      same = sym more ∙ l.invariant.same;
    }

pub seek-loop-this-smaller : goal.seek-loop-this-smaller
seek-loop-this-smaller t c =
    let l = c.loop-this in
    let up = (made_nested c.args.steps.now c.requires.made l.this c.step_at-step.result.now c.step_at-step.ensures).behind in let a = c.loop-this-test.true in omega (arith, up, a)

pub seek-overflow_add-number : goal.seek-overflow_add-number
seek-overflow_add-number t c =
    let l = c.loop-this in
    let f = l.invariant.few in let a = c.loop-this-test.true in let b = c.requires.within in let e = c.requires.made.few in omega (arith, f, a, b, e)

pub seek-returns-clause-found : goal.seek-returns-clause-found
seek-returns-clause-found t c =
    let l = c.loop-this in
    let o = c.loop-this-test.false in
    ap is_some (sym (step_none c.args.steps.now l.this c.args.end l.number c.args.slot (omega (arith, o))) ∙ l.invariant.same)

pub seek-returns-clause-path : goal.seek-returns-clause-path
seek-returns-clause-path t c =
    let l = c.loop-this in
    let o = c.loop-this-test.false in
    l.invariant.path ∙ ap (λ x. behind c.args.path.now x c.args.path.now) (sym (step_none c.args.steps.now l.this c.args.end l.number c.args.slot (omega (arith, o))) ∙ l.invariant.same)

pub seek_inside-seek-requires : goal.seek_inside-seek-requires
seek_inside-seek-requires t c =
    let u = c.requires.there in
    (omega (arith, u), (c.requires.made, ((made_nested c.args.steps.now c.requires.made c.args.this c.args.step.now c.requires.is).within, seq_room (form_at c.args.steps.now c.args.this c.args.step.now) (fields_at c.args.steps.now (c.args.this + 1) c.args.step.now.next) c.in-Some.field-0.now (length c.args.path.now) (form_by c.args.steps.now c.args.this c.args.step.now (acts.Seq c.in-Some.field-0.now) c.in-Some.ensures.some) (body_room c.args.steps.now c.args.this c.args.step.now (length c.args.path.now) c.requires.is c.requires.room))))

pub seek_inside-returns-in-Some-clause-found : goal.seek_inside-returns-in-Some-clause-found
seek_inside-returns-in-Some-clause-found t c =
    c.seek.ensures.found ∙ ap is_some (step_with c.args.steps.now c.args.this c.args.step.now c.args.slot c.in-Some.field-0.now c.requires.is c.in-Some.ensures.some)

pub seek_inside-returns-in-Some-clause-path : goal.seek_inside-returns-in-Some-clause-path
seek_inside-returns-in-Some-clause-path t c =
    c.seek.ensures.path ∙ ap (λ x. behind c.args.path.now x c.args.path.now) (step_with c.args.steps.now c.args.this c.args.step.now c.args.slot c.in-Some.field-0.now c.requires.is c.in-Some.ensures.some)

pub seek_inside-returns-in-None-clause-found : goal.seek_inside-returns-in-None-clause-found
seek_inside-returns-in-None-clause-found t c =
    ap is_some (sym (step_without c.args.steps.now c.args.this c.args.step.now c.args.slot c.requires.is c.in-None.ensures.none))

pub seek_inside-returns-in-None-clause-path : goal.seek_inside-returns-in-None-clause-path
seek_inside-returns-in-None-clause-path t c =
    ap (λ x. behind c.args.path.now x c.args.path.now) (sym (step_without c.args.steps.now c.args.this c.args.step.now c.args.slot c.requires.is c.in-None.ensures.none))

pub seek_by-seek_component-requires : goal.seek_by-seek_component-requires
seek_by-seek_component-requires t c = (omega arith, (c.requires.made, (c.requires.there, (c.requires.is, c.requires.room))))

pub seek_by-seek_inserted-requires : goal.seek_by-seek_inserted-requires
seek_by-seek_inserted-requires t c = room_depth (node_at c.args.steps.now c.args.this) (suc (length c.args.path.now)) c.requires.room

pub seek_by-returns-in-Component-clause-found : goal.seek_by-returns-in-Component-clause-found
seek_by-returns-in-Component-clause-found t c =
    c.seek_component.ensures.found ∙ ap (λ p. is_some (field_steps_by p (node_at c.args.steps.now c.args.this) c.args.number c.args.slot)) (sym c.in-Component.is)

pub seek_by-returns-in-Component-clause-path : goal.seek_by-returns-in-Component-clause-path
seek_by-returns-in-Component-clause-path t c =
    c.seek_component.ensures.path ∙ ap (λ p. behind c.args.path.now (field_steps_by p (node_at c.args.steps.now c.args.this) c.args.number c.args.slot) c.args.path.now) (sym c.in-Component.is)

pub seek_by-returns-in-Inserted-clause-found : goal.seek_by-returns-in-Inserted-clause-found
seek_by-returns-in-Inserted-clause-found t c =
    c.seek_inserted.ensures.found ∙ ap (λ p. is_some (field_steps_by p (node_at c.args.steps.now c.args.this) c.args.number c.args.slot)) (sym c.in-Inserted.is)

pub seek_by-returns-in-Inserted-clause-path : goal.seek_by-returns-in-Inserted-clause-path
seek_by-returns-in-Inserted-clause-path t c =
    c.seek_inserted.ensures.path ∙ ap (λ p. behind c.args.path.now (field_steps_by p (node_at c.args.steps.now c.args.this) c.args.number c.args.slot) c.args.path.now) (sym c.in-Inserted.is)

pub seek_component-push-requires : goal.seek_component-push-requires
seek_component-push-requires t c = (let d = room_depth (node_at c.args.steps.now c.args.this) (suc (length c.args.path.now)) c.requires.room in omega (arith, d))

pub seek_component-seek_inside-requires : goal.seek_component-seek_inside-requires
seek_component-seek_inside-requires t c =
    (omega arith, (c.requires.made, (c.requires.there, (c.requires.is, child_room (node_at c.args.steps.now c.args.this) c.args.path.now c.push.new.self c.args.number c.push.ensures c.requires.room))))

pub seek_component-returns-then-is_sought-clause-found : goal.seek_component-returns-then-is_sought-clause-found
seek_component-returns-then-is_sought-clause-found t c =
    ap is_some (sym (sought _ (c.args.number ∷ []) (option_map (λ inside. c.args.number ∷ inside) (steps_to (node_at c.args.steps.now c.args.this) c.args.slot)) _ (c.is_sought.ensures (c.args.number ∷ []) _) c.if-is_sought.true))

pub seek_component-returns-then-is_sought-clause-path : goal.seek_component-returns-then-is_sought-clause-path
seek_component-returns-then-is_sought-clause-path t c =
    c.push.ensures ∙ ap (λ x. behind c.args.path.now x c.args.path.now) (sym (sought _ (c.args.number ∷ []) (option_map (λ inside. c.args.number ∷ inside) (steps_to (node_at c.args.steps.now c.args.this) c.args.slot)) _ (c.is_sought.ensures (c.args.number ∷ []) _) c.if-is_sought.true))

pub seek_component-returns-then-seek_inside-clause-found : goal.seek_component-returns-then-seek_inside-clause-found
seek_component-returns-then-seek_inside-clause-found t c =
    let is = sym c.seek_inside.ensures.found ∙ c.if-seek_inside.true in
    let else' = not_sought _ (c.args.number ∷ []) (option_map (λ inside. c.args.number ∷ inside) (steps_to (node_at c.args.steps.now c.args.this) c.args.slot)) _ (c.is_sought.ensures (c.args.number ∷ []) _) c.if-is_sought.false in
    sym (ap is_some else' ∙ (same_found c.args.number (steps_to (node_at c.args.steps.now c.args.this) c.args.slot) ∙ is))

pub seek_component-returns-then-seek_inside-clause-path : goal.seek_component-returns-then-seek_inside-clause-path
seek_component-returns-then-seek_inside-clause-path t c =
    let is = sym c.seek_inside.ensures.found ∙ c.if-seek_inside.true in
    let else' = not_sought _ (c.args.number ∷ []) (option_map (λ inside. c.args.number ∷ inside) (steps_to (node_at c.args.steps.now c.args.this) c.args.slot)) _ (c.is_sought.ensures (c.args.number ∷ []) _) c.if-is_sought.false in
    c.seek_inside.ensures.path
    ∙ (ap (λ (p : List ℕ). behind p (steps_to (node_at c.args.steps.now c.args.this) c.args.slot) p) c.push.ensures
    ∙ (one_more c.args.path.now (c.args.path.now ++ c.args.number ∷ []) c.args.number (steps_to (node_at c.args.steps.now c.args.this) c.args.slot) is ∙ ap (λ x. behind c.args.path.now x c.args.path.now) (sym else')))

pub seek_component-returns-clause-found : goal.seek_component-returns-clause-found
seek_component-returns-clause-found t c =
    let is = sym c.seek_inside.ensures.found ∙ c.if-seek_inside.false in
    let else' = not_sought _ (c.args.number ∷ []) (option_map (λ inside. c.args.number ∷ inside) (steps_to (node_at c.args.steps.now c.args.this) c.args.slot)) _ (c.is_sought.ensures (c.args.number ∷ []) _) c.if-is_sought.false in
    sym (ap is_some else' ∙ (same_found c.args.number (steps_to (node_at c.args.steps.now c.args.this) c.args.slot) ∙ is))

pub seek_component-returns-clause-path : goal.seek_component-returns-clause-path
seek_component-returns-clause-path t c =
    let is = sym c.seek_inside.ensures.found ∙ c.if-seek_inside.false in
    let else' = not_sought _ (c.args.number ∷ []) (option_map (λ inside. c.args.number ∷ inside) (steps_to (node_at c.args.steps.now c.args.this) c.args.slot)) _ (c.is_sought.ensures (c.args.number ∷ []) _) c.if-is_sought.false in
    let none = ap is_some else' ∙ (same_found c.args.number (steps_to (node_at c.args.steps.now c.args.this) c.args.slot) ∙ is) in
    put_back _ _ _ c.args.path.now c.args.number c.pop.ensures (c.seek_inside.ensures.path ∙ (stays c.push.new.self _ is ∙ c.push.ensures)) ∙ sym (stays c.args.path.now _ none)
