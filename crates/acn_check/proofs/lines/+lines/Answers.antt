use Rattle.std.proofs.Common.{map}
use Rattle.acn_check.specs.Facts.{facts_of, field_facts, alternative_facts}
use Rattle.acn_grammar.specs.View.{fields_view, alternatives_view}
use Rattle.acn_check.proofs.Listing.{next_field, next_alternative}
use Rattle.acn_check.proofs.lines.+lines.Goals as goal

pub list_fields-loop-field-preserved : goal.list_fields-loop-field-preserved
list_fields-loop-field-preserved t c =
    let i = c.loop-field.invariant in
    let s = next_field c.args.path.now c.args.around c.loop-field.step c.args.fields.now c.loop-field.field-index c.field-item.result c.loop-field-test.true c.field-item.is _ _ (map facts_of c.args.lines.now.items) (field_facts c.args.path.now c.args.around 0 (fields_view c.args.fields.now)) c.in_ok-list_field.ensures i.done i.fit i.steps in
    record { done = s.done; fit = s.fit; steps = s.steps }

pub list_alternatives-loop-alternative-preserved : goal.list_alternatives-loop-alternative-preserved
list_alternatives-loop-alternative-preserved t c =
    let i = c.loop-alternative.invariant in
    let s = next_alternative c.args.path.now c.args.around c.loop-alternative.step c.args.alternatives.now c.loop-alternative.alternative-index c.alternative-item.result c.loop-alternative-test.true c.alternative-item.is _ _ (map facts_of c.args.lines.now.items) (alternative_facts c.args.path.now c.args.around 0 (alternatives_view c.args.alternatives.now)) c.in_ok-list_alternative.ensures i.done i.fit i.steps in
    record { done = s.done; fit = s.fit; steps = s.steps }
