use Rattle.std.proofs.Common.{drop, ◌+◌, ◌-◌, ◌∷◌, [], ◌++◌, ap, ◌∙◌, map, rules}
use Rattle.std.proofs.lemmas.List.{drop_all, map-append}
use Rattle.std.specs.Prelude.{option_map}
use Rattle.acn_tree.specs.Made.{made, parts}
use Rattle.acn_grammar.specs.declared.node.Node.{the_lemmas}
use Rattle.acn_grammar.specs.View.{grammar_of, data_of, elements_of, places_of, fields_view, field_of, with_field}
use Rattle.acn_tree.proofs.MadeFields.{elements_value, elements_state, places_value, places_state, nothing_left, stands_still, can_at, named_at, places_made, fields_from, can_turn, named_turn, component_turn, component_goes_on, inserted_turn}
use Rattle.acn_grammar.proofs.Views.{view_component, view_inserted}
use Rattle.acn_tree.proofs.making.+make.Goals.{make_places-in-Component+in_ok-make_place-in-Component+in_ok-push-in-Component, make_places-in-Inserted}
use Rattle.acn_tree.proofs.MadeViews.{seq_value, list_value, list_state, choice_value, choice_state, choice_can, choice_named}
use Rattle.acn_tree.proofs.Parts.{value_turn, state_turn, value_done, state_done}
use Rattle.acn_tree.proofs.making.+make.Goals as goal

pub make_elements-returns-clause-value : goal.make_elements-returns-clause-value
make_elements-returns-clause-value t c =
    let each = made (grammar_of c.args.element.now) in
    ap elements_of (value_done each c.args.n c.loop.counter c.loop.draw (map data_of c.loop.elements) _ c.loop-test.false c.loop.invariant.value) ∙ elements_value each c.args.n c.args.draw.now

pub make_elements-returns-clause-draw : goal.make_elements-returns-clause-draw
make_elements-returns-clause-draw t c =
    let each = made (grammar_of c.args.element.now) in
    state_done each c.args.n c.loop.counter c.loop.draw _ c.loop-test.false c.loop.invariant.state ∙ elements_state each c.args.n c.args.draw.now

pub make_elements-loop-preserved : goal.make_elements-loop-preserved
make_elements-loop-preserved t c =
    let each = made (grammar_of c.args.element.now) in
    let l = c.loop in
    let v = c.in_ok-make_node in
    record {
      value = ap (λ ds. ds ++ (parts each (c.args.n - (l.counter + 1)) c.make_node.new.draw).value) (ap (map data_of) c.in_ok-push.ensures.ok ∙ map-append data_of l.elements (v.field-0 ∷ []))
          ∙ value_turn each c.args.n l.counter l.draw c.make_node.new.draw (data_of v.field-0) (map data_of l.elements) _ c.loop-test.true v.ensures.value v.ensures.draw l.invariant.value;
      state = state_turn each c.args.n l.counter l.draw c.make_node.new.draw _ c.loop-test.true v.ensures.draw l.invariant.state;
    }

pub make_places-returns-clause-value : goal.make_places-returns-clause-value
make_places-returns-clause-value t c =
    let l = c.loop-field in
    let none = ap fields_view (drop_all l.field-index c.args.fields.now c.loop-field-test.false) in
    ap places_of (nothing_left _ l.draw (map (option_map data_of) l.places) _ none l.invariant.value) ∙ places_value (fields_view c.args.fields.now) c.args.draw.now

pub make_places-returns-clause-draw : goal.make_places-returns-clause-draw
make_places-returns-clause-draw t c =
    let l = c.loop-field in
    let none = ap fields_view (drop_all l.field-index c.args.fields.now c.loop-field-test.false) in
    stands_still _ l.draw _ none l.invariant.state ∙ places_state (fields_view c.args.fields.now) c.args.draw.now

pub make_alternative-make_node-requires : goal.make_alternative-make_node-requires
make_alternative-make_node-requires t c =
    let as' = c.args.alternatives.now in
    let a = c.index-alternatives-at.result in
    (search (rules, the_lemmas), (can_at as' c.pick-at.result a c.pick-at.ensures.within c.requires.can, named_at as' c.pick-at.result a c.pick-at.ensures.within c.requires.named))

pub make_alternative-returns-clause-value : goal.make_alternative-returns-clause-value
make_alternative-returns-clause-value t c =
    let p = c.pick-at in
    choice_value c.args.alternatives.now p.result c.args.draw.now p.new.self c.index-alternatives-at.result p.ensures.within p.ensures.number p.ensures.draw c.in_ok-new.field-0 (ap data_of c.in_ok-new.ensures ∙ c.in_ok-inside.ensures.value)

pub make_alternative-returns-clause-draw : goal.make_alternative-returns-clause-draw
make_alternative-returns-clause-draw t c =
    let p = c.pick-at in
    choice_state c.args.alternatives.now p.result c.args.draw.now p.new.self c.index-alternatives-at.result p.ensures.within p.ensures.number p.ensures.draw c.make_node.new.draw c.in_ok-inside.ensures.draw

pub make_body-make_alternative-requires : goal.make_body-make_alternative-requires
make_body-make_alternative-requires t c =
    let as' = c.items-in-Choice.result.now in
    let k = choice_can c.args.body.now c.in-Choice.choice as' c.in-Choice.is c.items-in-Choice.ensures c.requires.can in
    (search (rules, the_lemmas), (k.0, (k.1, (k.2, choice_named c.args.body.now c.in-Choice.choice as' c.in-Choice.is c.items-in-Choice.ensures c.requires.named))))

pub make_body-returns-in_ok-make_places-in-Seq-clause-value :
    goal.make_body-returns-in_ok-make_places-in-Seq-clause-value
make_body-returns-in_ok-make_places-in-Seq-clause-value t c =
    let v = c.in_ok-make_places-in-Seq in
    seq_value c.args.body.now c.in-Seq.seq c.items.result.now v.field-0 c.args.draw.now c.in-Seq.is c.items.ensures v.ensures.value

pub make_body-returns-in_ok-make_elements-in-List-clause-value :
    goal.make_body-returns-in_ok-make_elements-in-List-clause-value
make_body-returns-in_ok-make_elements-in-List-clause-value t c =
    let v = c.in_ok-make_elements-in-List in
    list_value c.args.body.now c.in-List.sizing c.in-List.element c.get.result.now v.field-0 c.size-n.result c.size-n.new.draw c.args.draw.now c.in-List.is c.get.ensures c.size-n.ensures.value c.size-n.ensures.draw v.ensures.value

pub make_body-returns-in_ok-make_elements-in-List-clause-draw :
    goal.make_body-returns-in_ok-make_elements-in-List-clause-draw
make_body-returns-in_ok-make_elements-in-List-clause-draw t c =
    let v = c.in_ok-make_elements-in-List in
    list_state c.args.body.now c.in-List.sizing c.in-List.element c.get.result.now c.size-n.result c.size-n.new.draw c.make_elements.new.draw c.args.draw.now c.in-List.is c.get.ensures c.size-n.ensures.value c.size-n.ensures.draw v.ensures.draw

pub make_places-loop-field-preserved : goal.make_places-loop-field-preserved
make_places-loop-field-preserved t c =
    let l = c.loop-field in
    let f = c.field-item.result in
    let fields = c.args.fields.now in
    let rest = fields_view (drop (l.field-index + 1) fields) in
    let from = fields_from fields l.field-index f c.loop-field-test.true c.field-item.is in
    elim c.match-field.branch [
      | make_places-in-Component+in_ok-make_place-in-Component+in_ok-push-in-Component w ↦
          let v = w.in_ok-make_place-in-Component in
          let is = from ∙ ap (λ one. with_field one rest) (ap field_of w.in-Component.is ∙ view_component _ _ _ _ _) in
          record {
            can = can_turn (field_of f) _ rest from l.invariant.can;
            named = named_turn (field_of f) _ rest from l.invariant.named;
            value = ap (λ ds. ds ++ (places_made rest c.match-field.draw).value) (ap (map (option_map data_of)) (w.places-is ∙ w.in_ok-push-in-Component.ensures.ok) ∙ map-append (option_map data_of) l.places (v.field-0 ∷ []))
                ∙ component_turn _ rest _ _ _ _ _ l.draw c.match-field.draw (option_map data_of v.field-0) (map (option_map data_of) l.places) _ is v.ensures.value (w.draw-is ∙ v.ensures.draw) l.invariant.value;
            state = component_goes_on _ rest _ _ _ _ _ l.draw c.match-field.draw _ is (w.draw-is ∙ v.ensures.draw) l.invariant.state;
          }
      | make_places-in-Inserted w ↦
          let is = from ∙ ap (λ one. with_field one rest) (ap field_of w.in-Inserted.is ∙ view_inserted _ _ _) in
          let same = inserted_turn _ rest _ _ _ is in
          record {
            can = can_turn (field_of f) _ rest from l.invariant.can;
            named = named_turn (field_of f) _ rest from l.invariant.named;
            value = rw (w.places-is, w.draw-is, ← same) l.invariant.value;
            state = rw (w.draw-is, ← same) l.invariant.state;
          }
    ]
