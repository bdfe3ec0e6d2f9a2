use Rattle.std.proofs.Common.{◌≤◌, suc, length, rules, sym, subst, ◌∙◌, arith}
use Rattle.acn_grammar.specs.View.{fields_view}
use Rattle.acn_grammar.specs.declared.node.Node.{the_lemmas}
use Rattle.acn_grammar.specs.declared.limits.TheConstants.{MOST_NODES}
use Rattle.acn_determinants.specs.Spots.{FieldsReached}
use Rattle.acn_determinants.proofs.Turns.{component-turn, inserted-turn, fields-turn, reached-fields, reached-turn}
use Rattle.acn_determinants.proofs.finding.+find.Goals.{find_field-in-Component+in_ok-note-in-Component+in_ok-find_inside-in-Component, find_field-in-Inserted+in_ok-note-in-Inserted}
use Rattle.acn_determinants.proofs.finding.+find.Goals as goal

pub find_field-returns-clause-noted : goal.find_field-returns-clause-noted
find_field-returns-clause-noted t c = λ s fs.
    elim c.match-field.branch [
      | find_field-in-Component+in_ok-note-in-Component+in_ok-find_inside-in-Component w ↦
          rw w.found-is (component-turn c.args.path.now _ c.args.step s _ _ _ c.args.field.now _ w.in-Component.node _ _ _ fs w.in-Component.is c.push.ensures (w.in_ok-note-in-Component.ensures s) (w.in_ok-find_inside-in-Component.ensures.noted s))
      | find_field-in-Inserted+in_ok-note-in-Inserted w ↦
          rw w.found-is (inserted-turn c.args.path.now _ c.args.step s _ _ c.args.field.now _ w.in-Inserted.node _ fs w.in-Inserted.is c.push.ensures (w.in_ok-note-in-Inserted.ensures s))
    ]

pub find_fields-loop-field-preserved : goal.find_fields-loop-field-preserved
find_fields-loop-field-preserved t c =
    let l = c.loop-field in
    record {
      step = omega arith;
      path = c.in_ok-find_field.ensures.back ∙ l.invariant.path;
      reached = reached-turn _ c.args.fields.now l.field-index c.field-item.result c.loop-field-test.true c.field-item.is l.invariant.reached;
      noted = λ s. fields-turn c.args.fields.now l.field-index l.step s c.field-item.result l.path c.args.path.now _ _ _ c.loop-field-test.true c.field-item.is l.invariant.path l.invariant.step (c.in_ok-find_field.ensures.noted s) (l.invariant.noted s);
    }

pub find_inside-find_fields-requires : goal.find_inside-find_fields-requires
find_inside-find_fields-requires t c =
    let r = reached-fields _ c.args.node.now c.in-Seq.seq c.in-Seq.is c.requires in
    (search (rules, the_lemmas), (subst (λ fs. length fs ≤ MOST_NODES) (sym c.items.ensures) r.0, subst (λ fs. FieldsReached (suc (length c.args.path.now)) (fields_view fs)) (sym c.items.ensures) r.1))
