use Rattle.std.proofs.Common.{length, arith, refl}
use Rattle.serde_json.specs.Data.{no_members}
use Rattle.acn_grammar.specs.View.{fields_view, places_view}
use Rattle.acn_json.specs.Lines.{fields_json}
use Rattle.acn_json.specs.Spots.{members_at, json_at}
use Rattle.acn_json.specs.declared.spots.Spot.{Spot}
use Rattle.acn_json.proofs.Objects.{fields-skip, note-turn}
use Rattle.acn_json.proofs.spots.spots_of.Goals.{in-Component+else-at-places+in_ok-note-in-Component, in-Inserted}
use Rattle.acn_json.proofs.spots.spots_of.Goals as goal

pub loop-k-preserved : goal.loop-k-preserved
loop-k-preserved c =
    let fs = c.args.fields.now in
    let ps = c.args.places.now in
    let l = c.loop-k in
    let whole = fields_json no_members (fields_view fs) (places_view ps) in
    elim c.match-field.branch [
      | in-Component+else-at-places+in_ok-note-in-Component w ↦
          let spot : Spot = record { field = l.k; place = l.at } in
          let noted = w.in_ok-note-in-Component.ensures in
          record {
            room = omega arith;
            within = rw w.known-is (noted.within (length fs) (length ps) c.loop-k-test.true (omega arith) l.invariant.within);
            same = rw (w.known-is, w.at-is)
                (note-turn fs ps l.k l.at c.index-fields-k.result w.in-Component.name w.in-Component.node _ _ _ w.index-places-at.result spot w.bytes.result.now l.known.entries _ whole c.loop-k-test.true (omega arith) c.index-fields-k.is w.index-places-at.is w.in-Component.is refl refl w.bytes.ensures (noted.members (json_at fs ps)) l.invariant.same);
          }
      | in-Inserted w ↦ record {
        room = omega arith;
        within = rw w.known-is l.invariant.within;
        same = rw (w.known-is, w.at-is) (fields-skip fs ps l.k l.at c.index-fields-k.result w.in-Inserted.name w.in-Inserted.node w.in-Inserted.slot (members_at (json_at fs ps) l.known.entries) whole c.loop-k-test.true c.index-fields-k.is w.in-Inserted.is l.invariant.same);
      }
    ]
