use Rattle.std.proofs.Common.{◌+◌, ◌-◌, ◌∷◌, [], None, sym, ap, ◌∙◌, map, rules}
use Rattle.std.proofs.lemmas.List.{drop_all, map-append}
use Rattle.std.specs.Prelude.{option_map}
use Rattle.acn_grammar.specs.View.{grammar_of, data_of, field_of, fields_view}
use Rattle.acn_grammar.specs.declared.node.Node.{the_lemmas}
use Rattle.acn_grammar.proofs.Views.{view_component}
use Rattle.acn_extreme_laws.specs.Best.{is_enough, best}
use Rattle.acn_extremes.specs.Ways.{value_way, place_way, left_behind}
use Rattle.acn_extremes.proofs.Placing.{field_turn, fields_end, fields_told, fields_stop, component_added}
use Rattle.acn_extremes.proofs.Runs.{run_left, with_run, run_turn, run_enough, run_stops, run_done, run_told, run_stop}
use Rattle.acn_extremes.proofs.Views.{choice_can}
use Rattle.acn_extremes.proofs.best.+best.Goals as goal

pub best_body-best_case-requires : goal.best_body-best_case-requires
best_body-best_case-requires t c =
    let k = choice_can c.args.body.now c.in-Choice.choice c.items-in-Choice.result.now c.in-Choice.is c.items-in-Choice.ensures c.requires in
    (search (rules, the_lemmas), (k.0, k.1))

pub best_elements-returns-in-None : goal.best_elements-returns-in-None
best_elements-returns-in-None t c =
    let each = best (grammar_of c.args.slots.now.root.now) c.args.side (grammar_of c.args.element.now) in
    let enough = is_enough c.args.side c.args.sizes.now in
    run_stop enough each c.args.n c.args.at (run_stops enough each c.args.n c.loop-k.k c.loop-k.end (map data_of c.loop-k.elements) _ c.loop-k-test.true (ap (option_map value_way) (sym c.in-None.is) ∙ c.in_ok-next.ensures) c.loop-k.invariant)

pub best_elements-returns-then-is_last : goal.best_elements-returns-then-is_last
best_elements-returns-then-is_last t c =
    let each = best (grammar_of c.args.slots.now.root.now) c.args.side (grammar_of c.args.element.now) in
    let enough = is_enough c.args.side c.args.sizes.now in
    let l = c.loop-k in
    run_told enough each c.args.n c.args.at (map data_of l.elements) l.end
    (run_enough enough each c.args.n l.k l.end (value_way c.in-Some.way) (map data_of l.elements) _ c.loop-k-test.true (ap (option_map value_way) (sym c.in-Some.is) ∙ c.in_ok-next.ensures) (sym c.if-is_last.ensures) l.invariant)

pub best_elements-loop-k-preserved : goal.best_elements-loop-k-preserved
best_elements-loop-k-preserved t c =
    let each = best (grammar_of c.args.slots.now.root.now) c.args.side (grammar_of c.args.element.now) in
    let enough = is_enough c.args.side c.args.sizes.now in
    let l = c.loop-k in
    let w = c.in-Some.way in
    ap (λ ds. with_run ds (run_left enough each (c.args.n - (l.k + 1)) (l.k + 1) w.end)) (ap (map data_of) c.in_ok-push-in-Some.ensures.ok ∙ map-append data_of l.elements (w.made ∷ []))
    ∙ run_turn enough each c.args.n l.k l.end (value_way w) (map data_of l.elements) _ c.loop-k-test.true (ap (option_map value_way) (sym c.in-Some.is) ∙ c.in_ok-next.ensures) (sym c.if-is_last.ensures) l.invariant

pub best_elements-returns : goal.best_elements-returns
best_elements-returns t c =
    let each = best (grammar_of c.args.slots.now.root.now) c.args.side (grammar_of c.args.element.now) in
    let enough = is_enough c.args.side c.args.sizes.now in
    run_told enough each c.args.n c.args.at (map data_of c.loop-k.elements) c.loop-k.end (run_done enough each c.args.n c.loop-k.k c.loop-k.end (map data_of c.loop-k.elements) _ c.loop-k-test.false c.loop-k.invariant)

pub best_field-returns-in_ok-push-in-Some : goal.best_field-returns-in_ok-push-in-Some
best_field-returns-in_ok-push-in-Some t c = λ fs.
    component_added (grammar_of c.args.slots.now.root.now) c.args.side (field_of c.args.field.now) _ _ _ _ _ c.args.at (place_way c.in-Some.way) (map (option_map data_of) c.args.places.now) (map (option_map data_of) c.push.new.self) fs
    (ap field_of c.in-Component.is ∙ view_component _ _ _ _ _)
    (ap (option_map place_way) (sym c.in-Some.is) ∙ c.in_ok-best_component-in-Component.ensures)
    (ap (map (option_map data_of)) c.in_ok-push-in-Some.ensures.ok ∙ map-append (option_map data_of) c.args.places.now (c.in-Some.way.made ∷ []))

pub best_fields-returns-in-None : goal.best_fields-returns-in-None
best_fields-returns-in-None t c =
    let root = grammar_of c.args.slots.now.root.now in
    let l = c.loop-field in
    fields_stop root c.args.side (fields_view c.args.fields.now) c.args.at
    (field_turn root c.args.side c.args.fields.now l.field-index c.field-item.result None (map (option_map data_of) l.places) (map (option_map data_of) c.best_field.new.places) l.end _ c.loop-field-test.true c.field-item.is
    (λ more. ap (λ n. left_behind root c.args.side n (map (option_map data_of) c.best_field.new.places) more) (sym c.in-None.is) ∙ c.in_ok-next.ensures more) l.invariant.value)

pub best_fields-returns : goal.best_fields-returns
best_fields-returns t c =
    let root = grammar_of c.args.slots.now.root.now in
    let l = c.loop-field in
    fields_told root c.args.side (fields_view c.args.fields.now) c.args.at (map (option_map data_of) l.places) l.end
    (fields_end root c.args.side _ (map (option_map data_of) l.places) l.end _ (ap fields_view (drop_all l.field-index c.args.fields.now c.loop-field-test.false)) l.invariant.value)
