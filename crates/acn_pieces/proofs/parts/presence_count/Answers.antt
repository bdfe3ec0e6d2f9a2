use Rattle.std.proofs.Common.{◌+◌, ◌∙◌, ap, sym, None, arith}
use Rattle.acn_grammar.specs.View.{places_view}
use Rattle.std.proofs.Common.{drop}
use Rattle.acn_pieces.proofs.PresenceSteps.{count-turn, inserted-count, counted}
use Rattle.acn_pieces.proofs.parts.presence_count.Goals.{in-Component+else-at-places, in-Inserted}
use Rattle.acn_pieces.proofs.parts.presence_count.Goals as goal

pub loop-field-preserved : goal.loop-field-preserved
loop-field-preserved c =
    let l = c.loop-field in
    elim c.match-field.branch [
      | in-Component+else-at-places w ↦ record {
        within = omega arith;
        few = omega (arith, w.count-is, w.presence_bit-count.ensures.small, l.invariant.few);
        same = rw w.at-is (counted l.count w.presence_bit-count.result _ _ _ _ _ w.count-is w.presence_bit-count.ensures.value
            (count-turn c.args.fields.now c.args.places.now l.field-index l.at c.field-item.result _ _ w.in-Component.presence _ _ None c.loop-field-test.true (omega arith) c.field-item.is w.in-Component.is) l.invariant.same);
      }
      | in-Inserted w ↦ record {
        within = omega arith;
        few = omega (arith, w.count-is, l.invariant.few);
        same = rw (w.at-is, w.count-is) (ap (λ n. l.count + n) (sym (inserted-count c.args.fields.now (places_view (drop l.at c.args.places.now)) l.field-index c.field-item.result _ _ _ c.loop-field-test.true c.field-item.is w.in-Inserted.is)) ∙ l.invariant.same);
      }
    ]
