use Rattle.std.proofs.Common.{◌+◌, length, drop, sym, subst, ◌∙◌, arith, rules}
use Rattle.std.proofs.lemmas.Grind.{common_steps}
use Rattle.acn_tree.specs.Room.{FieldsHaveRoom}
use Rattle.acn_grammar.specs.View.{grammar_of, fields_view, field_of}
use Rattle.acn_grammar.specs.declared.node.Node.{the_lemmas}
use Rattle.acn_tree.proofs.BreachSteps.{below, size-here, size-later, element-here, element-later, component-here, component-later, inserted-later, alternative-at, alternative-past, room-fields, room-turn, room-rest, room-chosen, list-breaches}
use Rattle.acn_grammar.proofs.Views.{view_seq, view_node, view_seq_form}
use Rattle.acn_tree.proofs.breach.+meet.Goals.{fields_meet-in-Component+else-at-places+in_ok-place_meets-in-Component, fields_meet-in-Inserted}
use Rattle.acn_tree.proofs.breach.+meet.Goals as goal

pub alternative_meets-inside_meets-requires : goal.alternative_meets-inside_meets-requires
alternative_meets-inside_meets-requires t c =
    let there = c.in-Some.ensures.lookup in
    (search (rules, the_lemmas), room-chosen _ c.args.alternatives.now c.args.at c.in-Some.alternative.now (below _ _ there.0) there.1 c.requires)

pub alternative_meets-returns-in-Some-clause-answer :
    goal.alternative_meets-returns-in-Some-clause-answer
alternative_meets-returns-in-Some-clause-answer t c =
    grind (arith, common_steps, alternative-at c.args.path.now c.args.at c.args.alternatives.now c.args.at c.in-Some.alternative.now)

pub alternative_meets-returns-in-None-clause-answer :
    goal.alternative_meets-returns-in-None-clause-answer
alternative_meets-returns-in-None-clause-answer t c = grind (arith, common_steps, alternative-past)

pub elements_meet-returns-in_err-inside_meets-clause-answer :
    goal.elements_meet-returns-in_err-inside_meets-clause-answer
elements_meet-returns-in_err-inside_meets-clause-answer t c =
    let l = c.loop-v in
    let there = element-here c.args.path.now l.path (grammar_of c.args.element.now) c.args.elements.now l.step l.v-index c.v-item.result _ c.loop-v-test.true c.v-item.is l.invariant.path l.invariant.step c.in_err-inside_meets.ensures.answer ∙ l.invariant.same in
    grind (arith, common_steps)

pub elements_meet-loop-v-preserved : goal.elements_meet-loop-v-preserved
elements_meet-loop-v-preserved t c =
    let l = c.loop-v in
    record {
      step = omega arith;
      path = c.in_ok-inside_meets.ensures.back ∙ l.invariant.path;
      same = element-later c.args.path.now l.path (grammar_of c.args.element.now) c.args.elements.now l.step l.v-index c.v-item.result c.loop-v-test.true c.v-item.is l.invariant.path l.invariant.step c.in_ok-inside_meets.ensures.answer ∙ l.invariant.same;
    }

pub fields_meet-returns-in_err-place_meets-in-Component-clause-answer :
    goal.fields_meet-returns-in_err-place_meets-in-Component-clause-answer
fields_meet-returns-in_err-place_meets-in-Component-clause-answer t c =
    let l = c.loop-field in
    let there = component-here c.args.path.now l.path c.args.fields.now c.args.places.now l.step l.field-index l.at c.field-item.result _ c.in-Component.node _ _ _ c.index-places-at.result _ c.loop-field-test.true (omega arith) c.field-item.is c.index-places-at.is c.in-Component.is l.invariant.path l.invariant.step c.in_err-place_meets-in-Component.ensures.answer ∙ l.invariant.same in
    grind (arith, common_steps)

pub fields_meet-loop-field-preserved : goal.fields_meet-loop-field-preserved
fields_meet-loop-field-preserved t c =
    let l = c.loop-field in
    let rest = room-rest _ (field_of c.field-item.result) (drop (l.field-index + 1) c.args.fields.now) (room-turn _ c.args.fields.now l.field-index c.field-item.result c.loop-field-test.true c.field-item.is l.invariant.room) in
    elim c.match-field.branch [
      | fields_meet-in-Component+else-at-places+in_ok-place_meets-in-Component w ↦ record {
        step = omega arith;
        path = w.path-is ∙ (w.in_ok-place_meets-in-Component.ensures.back ∙ l.invariant.path);
        within = omega arith;
        room = rest;
        same = rw w.at-is (component-later c.args.path.now l.path c.args.fields.now c.args.places.now l.step l.field-index l.at c.field-item.result _ w.in-Component.node _ _ _ w.index-places-at.result c.loop-field-test.true (omega arith) c.field-item.is w.index-places-at.is w.in-Component.is l.invariant.path l.invariant.step w.in_ok-place_meets-in-Component.ensures.answer ∙ l.invariant.same);
      }
      | fields_meet-in-Inserted w ↦ record {
        step = omega arith;
        path = w.path-is ∙ l.invariant.path;
        within = omega arith;
        room = rest;
        same = rw w.at-is (inserted-later c.args.path.now c.args.fields.now c.args.places.now l.field-index l.at c.field-item.result _ w.in-Inserted.node _ c.loop-field-test.true c.field-item.is w.in-Inserted.is ∙ l.invariant.same);
      }
    ]

pub list_meets-returns-in_err-size_meets-clause-answer :
    goal.list_meets-returns-in_err-size_meets-clause-answer
list_meets-returns-in_err-size_meets-clause-answer t c =
    let there = size-here c.args.path.now c.in_err-size_meets.field-0.0 c.args.sizing.now c.args.elements.now in
    grind (arith, common_steps) ∙ there _ c.in_err-size_meets.ensures

pub list_meets-returns-clause-answer : goal.list_meets-returns-clause-answer
list_meets-returns-clause-answer t c = c.elements_meet.ensures.answer ∙ sym (size-later c.args.path.now c.args.sizing.now c.args.elements.now _ c.in_ok-size_meets.ensures)

pub node_meets-fields_meet-requires : goal.node_meets-fields_meet-requires
node_meets-fields_meet-requires t c =
    let r = room-fields (length c.args.path.now) c.args.node.now c.in-Seq.seq c.in-Seq.is c.requires in
    (search (rules, the_lemmas), (grind (arith, common_steps), subst (λ fs. FieldsHaveRoom (length c.args.path.now + 1) (fields_view fs)) (sym c.items-in-Seq-v.ensures) r.1))

pub node_meets-returns-in-Seq-v-clause-answer : goal.node_meets-returns-in-Seq-v-clause-answer
node_meets-returns-in-Seq-v-clause-answer t c = grind (arith, common_steps, view_seq, view_node, view_seq_form)

pub node_meets-returns-in-List-v-clause-answer : goal.node_meets-returns-in-List-v-clause-answer
node_meets-returns-in-List-v-clause-answer t c =
    let e = list-breaches c.args.path.now c.args.node.now c.args.v.now _ _ _ c.in-List.is c.in-List-v.is in
    grind (arith, common_steps)
