use Rattle.std.proofs.Common.{◌∙◌, sym, arith}
use Rattle.acn_lines.proofs.PlacesLaw.{whole-turn, whole-past}
use Rattle.acn_lines.proofs.places.is_whole.Goals.{in-Component+then-is_met, in-Inserted}
use Rattle.acn_lines.proofs.places.is_whole.Goals as goal

pub loop-field-preserved : goal.loop-field-preserved
loop-field-preserved c =
    let l = c.loop-field in
    elim c.match-field.branch [
      | in-Component+then-is_met w ↦ record {
        few = omega (arith, w.at-is, l.invariant.few);
        same = whole-turn c.args.fields.now c.args.places.now l.field-index l.at _ c.field-item.result _ _ w.in-Component.presence _ _ _ c.loop-field-test.true c.field-item.is w.in-Component.is (omega (arith, w.at-is)) (sym w.is_met.ensures ∙ w.if-is_met.true) l.invariant.same;
      }
      | in-Inserted w ↦ record {
        few = omega (arith, w.at-is, l.invariant.few);
        same = rw w.at-is (whole-past c.args.fields.now _ l.field-index c.field-item.result _ _ _ _ c.loop-field-test.true c.field-item.is w.in-Inserted.is l.invariant.same);
      }
    ]
