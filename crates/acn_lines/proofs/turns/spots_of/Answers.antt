use Rattle.std.proofs.Common.{◌+◌, drop, arith, refl, sym, ap, subst, ◌∙◌}
use Rattle.acn_grammar.specs.View.{fields_view}
use Rattle.acn_lines.specs.declared.turns.Spot.{Spot}
use Rattle.acn_lines.proofs.OrderLaw.{Noted, AllPlaced, nothing_noted, first_place, placed_insert}
use Rattle.acn_lines.proofs.Noting.{component-turn, inserted-turn, place-behind-component, place-behind-inserted, fields-end}
use Rattle.acn_lines.proofs.turns.spots_of.Goals.{in-Component+in_ok-insert-in-Component, in-Inserted}
use Rattle.acn_lines.proofs.turns.spots_of.Goals as goal

pub loop-k-init : goal.loop-k-init
loop-k-init c = record {
  few = omega arith;
  count = sym (first_place (fields_view c.args.fields.now));
  placed = rw c.new-known.ensures.empty tt;
  noted = rw c.new-known.ensures.empty (nothing_noted (fields_view c.args.fields.now) c.requires);
}

pub loop-k-preserved : goal.loop-k-preserved
loop-k-preserved c =
    let fs = c.args.fields.now in
    let l = c.loop-k in
    elim c.match-field.branch [
      | in-Component+in_ok-insert-in-Component w ↦
          let spot : Spot = record { field = l.k; place = l.at } in
          record {
            few = omega arith;
            count = w.at-is ∙ (ap (λ n. n + 1) l.invariant.count ∙ sym (place-behind-component fs l.k (l.k + 1) c.index-fields-k.result w.in-Component.name w.in-Component.node _ _ _ c.loop-k-test.true c.index-fields-k.is w.in-Component.is (omega arith)));
            placed = rw w.known-is (subst (AllPlaced (fields_view fs)) (sym w.in_ok-insert-in-Component.ensures.entries) (placed_insert (fields_view fs) w.bytes.result spot l.known.entries l.invariant.count l.invariant.placed));
            noted = rw (w.known-is, w.at-is)
                (subst (Noted (fields_view fs) (fields_view (drop (l.k + 1) fs)) (l.at + 1)) (sym w.in_ok-insert-in-Component.ensures.entries)
                (component-turn fs l.k l.at (l.at + 1) c.index-fields-k.result w.bytes.result w.in-Component.name w.in-Component.node _ _ _ spot l.known.entries c.loop-k-test.true c.index-fields-k.is w.in-Component.is w.bytes.ensures refl refl (omega arith) l.invariant.noted));
          }
      | in-Inserted w ↦ record {
        few = omega arith;
        count = w.at-is ∙ (l.invariant.count ∙ sym (place-behind-inserted fs l.k (l.k + 1) c.index-fields-k.result w.in-Inserted.name w.in-Inserted.node w.in-Inserted.slot c.loop-k-test.true c.index-fields-k.is w.in-Inserted.is (omega arith)));
        placed = rw w.known-is l.invariant.placed;
        noted = rw (w.known-is, w.at-is) (inserted-turn fs l.k l.at c.index-fields-k.result w.in-Inserted.name w.in-Inserted.node w.in-Inserted.slot l.known.entries c.loop-k-test.true c.index-fields-k.is w.in-Inserted.is l.invariant.noted);
      }
    ]

pub returns : goal.returns
returns c = fields-end c.args.fields.now c.loop-k.k c.loop-k.at c.loop-k.known.entries c.loop-k-test.false c.loop-k.invariant.noted c.loop-k.invariant.placed
