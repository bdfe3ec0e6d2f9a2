use Rattle.std.proofs.Common.{◌∙◌, sym, ap, arith, drop, ◌+◌}
use Rattle.acn_grammar.specs.Interval.{fields_span, alternatives_span, plus, hull}
use Rattle.acn_grammar.specs.View.{fields_view, alternatives_view}
use Rattle.acn_grammar.proofs.Intervals.{none_hull, none_plus, alternatives_held, fields_held, plus_assoc, hull_assoc, fields_span-drop, alternatives_span-drop}
use Rattle.acn_tree.proofs.KeptLaw.{kept-turn, kept-alternative}
use Rattle.acn_tree.proofs.extent.+interval.Goals as goal

pub alternatives-loop-alternative-init : goal.alternatives-loop-alternative-init
alternatives-loop-alternative-init t c = record { least = omega arith; greatest = omega arith; kept = c.requires; same = none_hull _ (alternatives_held _) }

pub fields-loop-one-init : goal.fields-loop-one-init
fields-loop-one-init t c = rw c.exactly-all.ensures record { least = omega arith; greatest = omega arith; kept = c.requires; same = none_plus _ (fields_held _) }

pub alternatives-loop-alternative-preserved : goal.alternatives-loop-alternative-preserved
alternatives-loop-alternative-preserved t c =
    let i = c.loop-alternative.alternative-index in
    let list = c.args.alternatives.now in
    let step = alternatives_span-drop list i c.alternative-item.result c.loop-alternative-test.true c.alternative-item.is in
    rw c.hull-all.ensures record {
      least = omega arith;
      greatest = omega arith;
      kept = (kept-alternative list i c.alternative-item.result c.loop-alternative-test.true c.alternative-item.is c.loop-alternative.invariant.kept).1;
      same = hull_assoc _ _ _ ∙ (ap (hull c.loop-alternative.all) (ap (λ b. hull b (alternatives_span (alternatives_view (drop (i + 1) list)))) c.node_bounds.ensures.exact ∙ sym step) ∙ c.loop-alternative.invariant.same);
    }

pub fields-loop-one-preserved : goal.fields-loop-one-preserved
fields-loop-one-preserved t c =
    let i = c.loop-one.one-index in
    let list = c.args.fields.now in
    let step = fields_span-drop list i c.one-item.result c.loop-one-test.true c.one-item.is in
    rw c.plus-all.ensures record {
      least = omega arith;
      greatest = omega arith;
      kept = (kept-turn list i c.one-item.result c.loop-one-test.true c.one-item.is c.loop-one.invariant.kept).1;
      same = plus_assoc _ _ _ ∙ (ap (plus c.loop-one.all) (ap (λ b. plus b (fields_span (fields_view (drop (i + 1) list)))) c.field.ensures.exact ∙ sym step) ∙ c.loop-one.invariant.same);
    }
