use Rattle.std.proofs.Common.{◌++◌, ◌∷◌, [], ap, sym, ◌∙◌, drop_of_length-le, arith}
use Rattle.std.proofs.lemmas.Result.{err_from_is_err_and}
use Rattle.acn_grammar.specs.View.{grammar_of, form_of, fields_view, alternatives_view}
use Rattle.acn_grammar.specs.declared.node.Node.{Node}
use Rattle.acn_layout.specs.Layout.{node_line}
use Rattle.acn_print.proofs.Joining.{cut, joined, goes_on, breaks_off, ends, nothing}
use Rattle.acn_report.proofs.Rooms.{room}
use Rattle.acn_report.proofs.Turns.{field-walk, case-walk}
use Rattle.acn_layout.specs.Walks.{bounds_there, tag_seen, component_tag, inserted_tag, with_tests, plain, node_lines, field_lines, case_lines}
use Rattle.acn_layout.proofs.Forms.{moved}
use Rattle.acn_layout.proofs.Walking.{node_parts, field-lines, case-lines, seq_lines, list_lines, contained_lines, choice_lines, component_lines, inserted_lines}
use Rattle.acn_layout.proofs.walk.+layout.Goals as goal

pub put_node-returns-in_err-put_line : goal.put_node-returns-in_err-put_line
put_node-returns-in_err-put_line g t c =
    let p = err_from_is_err_and c.from_residual.result c.from_residual.ensures.1 in
    rw p.1 (moved _ _ _ _ _ (sym (node_parts c.args.checked.now.tree c.args.path.now (tag_seen c.args.tag.now) c.args.node.now)) (cut _ _ _ _ c.in_err-put_line.field-0.0 p.0 (moved _ _ _ _ _ (ap (λ tag. node_line c.args.checked.now.tree c.args.path.now tag (bounds_there (grammar_of c.args.checked.now.tree.root) c.args.path.now) c.args.node.now.align (form_of c.args.node.now.body)) c.again.ensures) c.in_err-put_line.ensures)))

pub put_node-returns : goal.put_node-returns
put_node-returns g t c = moved _ _ _ _ _ (sym (node_parts c.args.checked.now.tree c.args.path.now (tag_seen c.args.tag.now) c.args.node.now)) (joined _ _ _ _ _ _ (moved _ _ _ _ _ (ap (λ tag. node_line c.args.checked.now.tree c.args.path.now tag (bounds_there (grammar_of c.args.checked.now.tree.root) c.args.path.now) c.args.node.now.align (form_of c.args.node.now.body)) c.again.ensures) c.in_ok-put_line.ensures) c.put_body.ensures)

pub put_body-returns-in-Seq : goal.put_body-returns-in-Seq
put_body-returns-in-Seq g t c = moved _ _ _ _ _ (ap (λ l. field_lines c.args.checked.now.tree c.args.path.now 0 (fields_view l)) c.items.ensures ∙ seq_lines c.args.checked.now.tree c.args.path.now c.args.body.now _ c.in-Seq.is) c.put_fields.ensures

pub put_inside-with_step-place-requires : goal.put_inside-with_step-place-requires
put_inside-with_step-place-requires g t c = room c.args.path.now 0 _ c.requires

pub put_field-with_step-place-requires : goal.put_field-with_step-place-requires
put_field-with_step-place-requires g t c = room c.args.path.now c.args.step _ c.requires

pub put_case-with_step-place-requires : goal.put_case-with_step-place-requires
put_case-with_step-place-requires g t c = room c.args.path.now c.args.step _ c.requires

pub put_fields-returns-in_err-put_field : goal.put_fields-returns-in_err-put_field
put_fields-returns-in_err-put_field g t c =
    let l = c.loop-field in
    let p = err_from_is_err_and c.from_residual.result c.from_residual.ensures.1 in
    let turn = field-lines c.args.checked.now.tree c.args.path.now l.step c.args.fields.now l.field-index c.field-item.result c.loop-field-test.true c.field-item.is in
    rw p.1 (breaks_off _ _ _ _ l.invariant.prints _ _ _ c.in_err-put_field.field-0.0 p.0 turn c.in_err-put_field.ensures)

pub put_fields-loop-field-preserved : goal.put_fields-loop-field-preserved
put_fields-loop-field-preserved g t c =
    let l = c.loop-field in
    let turn = field-lines c.args.checked.now.tree c.args.path.now l.step c.args.fields.now l.field-index c.field-item.result c.loop-field-test.true c.field-item.is in
    record {
      prints = goes_on _ _ _ _ l.invariant.prints _ _ _ turn c.in_ok-put_field.ensures;
      walk = (field-walk c.args.path.now l.step c.args.fields.now l.field-index c.field-item.result c.loop-field-test.true c.field-item.is l.invariant.walk).rest;
    }

pub put_fields-returns : goal.put_fields-returns
put_fields-returns g t c = ends _ _ _ _ c.loop-field.invariant.prints (ap (λ l. field_lines c.args.checked.now.tree c.args.path.now c.loop-field.step (fields_view l)) (drop_of_length-le c.args.fields.now (omega arith)))

pub put_cases-returns-in_err-put_case : goal.put_cases-returns-in_err-put_case
put_cases-returns-in_err-put_case g t c =
    let l = c.loop-alternative in
    let p = err_from_is_err_and c.from_residual.result c.from_residual.ensures.1 in
    let turn = case-lines c.args.checked.now.tree c.args.path.now l.step c.args.alternatives.now l.alternative-index c.alternative-item.result c.loop-alternative-test.true c.alternative-item.is in
    rw p.1 (breaks_off _ _ _ _ l.invariant.prints _ _ _ c.in_err-put_case.field-0.0 p.0 turn c.in_err-put_case.ensures)

pub put_cases-loop-alternative-preserved : goal.put_cases-loop-alternative-preserved
put_cases-loop-alternative-preserved g t c =
    let l = c.loop-alternative in
    let turn = case-lines c.args.checked.now.tree c.args.path.now l.step c.args.alternatives.now l.alternative-index c.alternative-item.result c.loop-alternative-test.true c.alternative-item.is in
    record {
      prints = goes_on _ _ _ _ l.invariant.prints _ _ _ turn c.in_ok-put_case.ensures;
      walk = (case-walk c.args.path.now l.step c.args.alternatives.now l.alternative-index c.alternative-item.result c.loop-alternative-test.true c.alternative-item.is l.invariant.walk).rest;
    }

pub put_cases-returns : goal.put_cases-returns
put_cases-returns g t c = ends _ _ _ _ c.loop-alternative.invariant.prints (ap (λ l. case_lines c.args.checked.now.tree c.args.path.now c.loop-alternative.step (alternatives_view l)) (drop_of_length-le c.args.alternatives.now (omega arith)))

pub put_body-returns-in-List : goal.put_body-returns-in-List
put_body-returns-in-List g t c =
    let tree = c.args.checked.now.tree in
    let path = c.args.path.now in
    moved _ _ _ _ _ (ap (λ (n : Node). node_lines tree plain (path ++ 0 ∷ []) (grammar_of n)) c.get.ensures ∙ list_lines tree path c.args.body.now _ _ c.in-List.is) c.put_inside.ensures

pub put_body-returns-in-Contained : goal.put_body-returns-in-Contained
put_body-returns-in-Contained g t c =
    let tree = c.args.checked.now.tree in
    let path = c.args.path.now in
    moved _ _ _ _ _ (ap (λ (n : Node). node_lines tree plain (path ++ 0 ∷ []) (grammar_of n)) c.get-in-Contained.ensures ∙ contained_lines tree path c.args.body.now _ _ c.in-Contained.is) c.put_inside-in-Contained.ensures

pub put_field-returns-in-Component : goal.put_field-returns-in-Component
put_field-returns-in-Component g t c =
    let tree = c.args.checked.now.tree in
    let n = grammar_of c.in-Component.node in
    moved _ _ _ _ _
    (ap (λ tag. node_lines tree tag c.with_step-place.result n) c.component-tag.ensures
    ∙ (ap (λ p. node_lines tree (component_tag c.in-Component.presence) p n) c.with_step-place.ensures
    ∙ component_lines tree c.args.path.now c.args.step c.args.field.now _ c.in-Component.node c.in-Component.presence _ _ c.in-Component.is))
    c.put_node.ensures

pub put_field-returns-in-Inserted : goal.put_field-returns-in-Inserted
put_field-returns-in-Inserted g t c =
    let tree = c.args.checked.now.tree in
    let n = grammar_of c.in-Inserted.node in
    moved _ _ _ _ _
    (ap (λ tag. node_lines tree tag c.with_step-place.result n) c.inserted-tag.ensures
    ∙ (ap (λ p. node_lines tree inserted_tag p n) c.with_step-place.ensures
    ∙ inserted_lines tree c.args.path.now c.args.step c.args.field.now _ c.in-Inserted.node _ c.in-Inserted.is))
    c.put_node-in-Inserted.ensures
