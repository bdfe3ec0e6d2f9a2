use Rattle.std.proofs.Common.{◌≡◌, ◌+◌, ◌++◌, ◌∷◌, [], length, drop, map, ℕ, Option, None, Err, sym, ap, subst, ◌∙◌, arith, rules}
use Rattle.std.specs.Prelude.{option_map}
use Rattle.std.proofs.lemmas.Grind.{common_steps}
use Rattle.std.proofs.lemmas.List.{map-append}
use Rattle.serde_json.specs.Find.{get_member}
use Rattle.serde_json.specs.View.{view, items_view, members_view}
use Rattle.acn_grammar.specs.View.{grammar_of, data_of, field_of, fields_view, places_view}
use Rattle.acn_grammar.specs.declared.node.Node.{the_lemmas}
use Rattle.acn_grammar.proofs.Views.{view_component, view_inserted}
use Rattle.acn_json.specs.Answers.{Answers}
use Rattle.acn_json.specs.Few.{size, CanRead}
use Rattle.acn_json.specs.Reads.{made, component_from, value_from, each_from, places_from, first_unknown}
use Rattle.acn_json.proofs.Names.{few-some, on-same}
use Rattle.acn_json.proofs.Steps.{size-object, size-only, list-gives, record-gives, can-fields, can-alternatives, missing-room}
use Rattle.acn_json.proofs.Turns.{elements_before, places_before, fault-passes, element-turn, elements-end, size-item, count-items, component-turn, component-fails, inserted-turn, places-end, can-turn, can-component, can-rest}
use Rattle.acn_json.proofs.read.+read.Goals.{places_from-in-Component+in_ok-place_from-in-Component+in_ok-push-in-Component, places_from-in-Inserted}
use Rattle.acn_json.proofs.read.+read.Goals as goal

pub elements_from-inside_from-requires : goal.elements_from-inside_from-requires
elements_from-inside_from-requires t c =
    let l = c.loop-item in
    let s = size-item c.args.items.now l.item-index c.item-item.result c.loop-item-test.true in
    let e = ap (λ j. size (view j)) c.item-item.is in
    let few = c.requires.few in
    (search (rules, the_lemmas), (subst (λ p. CanRead (length p + 1) (grammar_of c.args.element.now)) (sym l.invariant.path) c.requires.can, omega arith))

pub elements_from-overflow_add-step : goal.elements_from-overflow_add-step
elements_from-overflow_add-step t c =
    let n = count-items c.args.items.now in
    let few = c.requires.few in
    let lt = c.loop-item-test.true in
    let e = c.loop-item.invariant.step in
    omega arith

pub elements_from-loop-item-preserved : goal.elements_from-loop-item-preserved
elements_from-loop-item-preserved t c =
    let l = c.loop-item in
    let path = c.args.path.now in
    let g = grammar_of c.args.element.now in
    let j = c.item-item.result in
    let v = c.in_ok-inside_from in
    let is = v.ensures.answer ∙ (ap (λ p. value_from (p ++ l.step ∷ []) g (view j)) l.invariant.path ∙ ap (λ k. value_from (path ++ k ∷ []) g (view j)) l.invariant.step) in
    record {
      step = ap (λ k. k + 1) l.invariant.step;
      path = v.ensures.back ∙ l.invariant.path;
      same = ap (λ ds. made (elements_before ds) (each_from (λ k i. value_from (path ++ k ∷ []) g i) (l.item-index + 1) (items_view (drop (l.item-index + 1) c.args.items.now)))) (ap (map data_of) c.in_ok-push.ensures.ok ∙ map-append data_of l.elements (v.field-0 ∷ []))
          ∙ element-turn (λ k i. value_from (path ++ k ∷ []) g i) c.args.items.now l.item-index l.item-index j (map data_of l.elements) (data_of v.field-0) _ c.loop-item-test.true c.item-item.is is l.invariant.same;
    }

pub elements_from-returns-clause-answer : goal.elements_from-returns-clause-answer
elements_from-returns-clause-answer t c =
    let l = c.loop-item in
    let path = c.args.path.now in
    let g = grammar_of c.args.element.now in
    elements-end (λ k i. value_from (path ++ k ∷ []) g i) c.args.items.now l.item-index l.item-index l.elements _ c.loop-item-test.false l.invariant.same

pub node_from-record_from-requires : goal.node_from-record_from-requires
node_from-record_from-requires t c =
    let r = can-fields (length c.args.path.now) c.args.node.now c.in-Seq.seq c.items.result.now c.in-Seq.is c.items.ensures c.requires.can in
    let s = size-object (view c.args.json.now) (members_view c.in-Some.members.now.entries) c.in-Some.ensures in
    let few = c.requires.few in
    (search (rules, the_lemmas), (r.0, (r.1, omega arith)))

pub node_from-alternative_from-requires : goal.node_from-alternative_from-requires
node_from-alternative_from-requires t c =
    let r = can-alternatives (length c.args.path.now) c.args.node.now c.in-Choice.choice c.items-in-Some-only_member.result.now c.in-Choice.is c.items-in-Some-only_member.ensures c.requires.can in
    let s = size-only (view c.args.json.now) _ (view c.in-Some-only_member.inside.now) c.in-Some-only_member.ensures in
    let few = c.requires.few in
    (search (rules, the_lemmas), (r.0, (r.1, omega arith)))

pub node_from-returns-in-Some-as_array-clause-answer :
    goal.node_from-returns-in-Some-as_array-clause-answer
node_from-returns-in-Some-as_array-clause-answer t c =
    let is = list-gives c.args.node.now c.in-List.field-0 c.in-List.element c.get.result.now c.args.path.now (view c.args.json.now) (items_view c.in-Some-as_array.items.now.items) (items_view c.as_slice.result.now) c.in-List.is c.get.ensures c.in-Some-as_array.ensures (ap items_view c.as_slice.ensures.value) in
    subst (λ r. Answers data_of c.elements_from.new.path c.list_of.result r) is (c.list_of.ensures.gives _ _ c.elements_from.ensures.answer)

pub node_from-returns-in-Some-as_array-clause-back :
    goal.node_from-returns-in-Some-as_array-clause-back
node_from-returns-in-Some-as_array-clause-back t c = on-same _ c.elements_from.result c.list_of.result c.list_of.ensures.kept c.elements_from.ensures.back

pub record_from-returns-in-None-first_missing-clause-answer :
    goal.record_from-returns-in-None-first_missing-clause-answer
record_from-returns-in-None-first_missing-clause-answer t c =
    let none : ◌≡◌ {A = Option ℕ} None (first_unknown (fields_view c.args.fields.now) 0 (members_view c.args.members.now.entries)) = sym c.in-None.is ∙ c.in_ok-unknown.ensures in
    let is = record-gives c.args.path.now (fields_view c.args.fields.now) (members_view c.args.members.now.entries) _ none c.in-None-first_missing.ensures in
    subst (λ r. Answers data_of c.places_from.new.path c.record_of.result r) is (c.record_of.ensures.gives _ _ c.places_from.ensures.answer)

pub record_from-returns-in-None-first_missing-clause-back :
    goal.record_from-returns-in-None-first_missing-clause-back
record_from-returns-in-None-first_missing-clause-back t c = on-same _ c.places_from.result c.record_of.result c.record_of.ensures.kept c.places_from.ensures.back

pub record_from-push-requires : goal.record_from-push-requires
record_from-push-requires t c =
    let r = missing-room (length c.args.path.now + 1) (members_view c.args.members.now.entries) 0 c.in-Some-first_missing.step (fields_view c.args.fields.now) c.requires.can c.in-Some-first_missing.ensures in
    omega arith

pub places_from-place_from-requires : goal.places_from-place_from-requires
places_from-place_from-requires t c =
    let l = c.loop-field in
    let fs = c.args.fields.now in
    let f = c.field-item.result in
    let n = c.in-Component.node in
    let name = c.in-Component.name in
    let view-is = ap field_of c.in-Component.is ∙ view_component name n c.in-Component.presence c.in-Component.default c.in-Component.slot in
    let can = can-component _ (field_of f) (fields_view (drop (l.field-index + 1) fs)) name (grammar_of n) _ _ _ view-is (can-turn _ fs l.field-index f c.loop-field-test.true c.field-item.is l.invariant.can) in
    (search (rules, the_lemmas), (subst (λ p. CanRead (length p + 1) (grammar_of n)) (sym l.invariant.path) can, few-some c.member.result c.bytes.result.now (members_view c.args.members.now.entries) _ c.member.ensures c.requires.few))

pub places_from-returns-in_err-place_from-in-Component-clause-answer :
    goal.places_from-returns-in_err-place_from-in-Component-clause-answer
places_from-returns-in_err-place_from-in-Component-clause-answer t c =
    let l = c.loop-field in
    let path = c.args.path.now in
    let fs = c.args.fields.now in
    let ms = members_view c.args.members.now.entries in
    let f = c.field-item.result in
    let n = c.in-Component.node in
    let name = c.in-Component.name in
    let g = grammar_of n in
    let end = c.place_from.new.path in
    let e = c.in_err-place_from-in-Component.field-0.0 in
    let whole = places_from path 0 (fields_view fs) ms in
    let view-is = ap field_of c.in-Component.is ∙ view_component name n c.in-Component.presence c.in-Component.default c.in-Component.slot in
    let is = ap (component_from (value_from (l.path ++ l.step ∷ []) g)) (c.member.ensures ∙ ap (λ k. get_member k ms) c.bytes.ensures)
    ∙ (ap (λ p. component_from (value_from (p ++ l.step ∷ []) g) (get_member name ms)) l.invariant.path ∙ ap (λ k. component_from (value_from (path ++ k ∷ []) g) (get_member name ms)) l.invariant.step) in
    let there : Answers places_view end (Err e) whole =
    fault-passes (option_map data_of) places_view end e _ whole
    (λ x h. component-fails path fs ms l.field-index l.field-index f name g c.in-Component.presence c.in-Component.default c.in-Component.slot (map (option_map data_of) l.places) x whole c.loop-field-test.true c.field-item.is view-is (h ∙ is) l.invariant.same) c.in_err-place_from-in-Component.ensures.answer in
    let same : c.from_residual.result ≡ Err e = grind (arith, common_steps) in
    subst (λ r. Answers places_view end r whole) (sym same) there

pub places_from-loop-field-preserved : goal.places_from-loop-field-preserved
places_from-loop-field-preserved t c =
    let l = c.loop-field in
    let path = c.args.path.now in
    let fs = c.args.fields.now in
    let ms = members_view c.args.members.now.entries in
    let f = c.field-item.result in
    let turn = can-turn _ fs l.field-index f c.loop-field-test.true c.field-item.is l.invariant.can in
    let rest = can-rest _ (field_of f) (fields_view (drop (l.field-index + 1) fs)) turn in
    elim c.match-field.branch [
      | places_from-in-Component+in_ok-place_from-in-Component+in_ok-push-in-Component w ↦
          let n = w.in-Component.node in
          let name = w.in-Component.name in
          let v = w.in_ok-place_from-in-Component in
          let g = grammar_of n in
          let view-is = ap field_of w.in-Component.is ∙ view_component name n w.in-Component.presence w.in-Component.default w.in-Component.slot in
          let is = v.ensures.answer ∙ (ap (component_from (value_from (l.path ++ l.step ∷ []) g)) (w.member.ensures ∙ ap (λ k. get_member k ms) w.bytes.ensures)
          ∙ (ap (λ p. component_from (value_from (p ++ l.step ∷ []) g) (get_member name ms)) l.invariant.path ∙ ap (λ k. component_from (value_from (path ++ k ∷ []) g) (get_member name ms)) l.invariant.step)) in
          record {
            step = ap (λ k. k + 1) l.invariant.step;
            path = w.path-is ∙ (v.ensures.back ∙ l.invariant.path);
            can = rest;
            same = ap (λ ds. made (places_before ds) (places_from path (l.field-index + 1) (fields_view (drop (l.field-index + 1) fs)) ms)) (ap (map (option_map data_of)) (w.places-is ∙ w.in_ok-push-in-Component.ensures.ok) ∙ map-append (option_map data_of) l.places (v.field-0 ∷ []))
                ∙ component-turn path fs ms l.field-index l.field-index f name g w.in-Component.presence w.in-Component.default w.in-Component.slot (map (option_map data_of) l.places) (option_map data_of v.field-0) _ c.loop-field-test.true c.field-item.is view-is is l.invariant.same;
          }
      | places_from-in-Inserted w ↦
          let view-is = ap field_of w.in-Inserted.is ∙ view_inserted w.in-Inserted.name w.in-Inserted.node w.in-Inserted.slot in
          record {
            step = ap (λ k. k + 1) l.invariant.step;
            path = w.path-is ∙ l.invariant.path;
            can = rest;
            same = rw w.places-is (inserted-turn path fs ms l.field-index l.field-index f w.in-Inserted.name (grammar_of w.in-Inserted.node) w.in-Inserted.slot (map (option_map data_of) l.places) _ c.loop-field-test.true c.field-item.is view-is l.invariant.same);
          }
    ]

pub places_from-returns-clause-answer : goal.places_from-returns-clause-answer
places_from-returns-clause-answer t c =
    let l = c.loop-field in
    places-end c.args.path.now c.args.fields.now (members_view c.args.members.now.entries) l.field-index l.field-index l.places _ c.loop-field-test.false l.invariant.same
