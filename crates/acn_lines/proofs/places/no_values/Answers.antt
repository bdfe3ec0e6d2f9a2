use Rattle.std.proofs.Common.{◌+◌, length, drop, map, ap, ◌∙◌, arith}
use Rattle.std.specs.Prelude.{option_map}
use Rattle.acn_grammar.specs.View.{data_of, fields_view}
use Rattle.acn_lines.specs.Taken as taken
use Rattle.acn_lines.proofs.PlacesLaw.{before_places, empty-turn, empty-past, empty-end, count-turn, count-past, pushed}
use Rattle.acn_lines.proofs.places.no_values.Goals.{in-Component+in_ok-push-in-Component, in-Inserted}
use Rattle.acn_lines.proofs.places.no_values.Goals as goal

pub loop-field-preserved : goal.loop-field-preserved
loop-field-preserved c =
    let l = c.loop-field in
    let fs = c.args.fields.now in
    elim c.match-field.branch [
      | in-Component+in_ok-push-in-Component w ↦
          let put = w.in_ok-push-in-Component.ensures.items in
          let rest = fields_view (drop (l.field-index + 1) fs) in
          record {
            empty = ap (λ v. before_places (map (option_map data_of) v.items) (taken.no_values rest)) w.places-is
                ∙ (ap (λ vs. before_places (map (option_map data_of) vs) (taken.no_values rest)) put
                ∙ empty-turn fs l.field-index c.field-item.result _ _ _ _ _ l.places.items _ c.loop-field-test.true c.field-item.is w.in-Component.is l.invariant.empty);
            count = ap (λ v. length v.items + taken.component_count rest) w.places-is
                ∙ (ap (λ vs. length vs + taken.component_count rest) put
                ∙ pushed l.places.items _ _ _ (count-turn fs l.field-index c.field-item.result _ _ _ _ _ c.loop-field-test.true c.field-item.is w.in-Component.is) l.invariant.count);
          }
      | in-Inserted w ↦ record {
        empty = rw w.places-is (empty-past fs l.field-index c.field-item.result _ _ _ _ _ c.loop-field-test.true c.field-item.is w.in-Inserted.is l.invariant.empty);
        count = rw w.places-is (let same = count-past fs l.field-index c.field-item.result _ _ _ c.loop-field-test.true c.field-item.is w.in-Inserted.is in let whole = l.invariant.count in omega arith);
      }
    ]

pub returns-clause-empty : goal.returns-clause-empty
returns-clause-empty c = empty-end c.args.fields.now c.loop-field.field-index c.loop-field.places.items _ c.loop-field-test.false c.loop-field.invariant.empty
