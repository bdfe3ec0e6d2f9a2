use Rattle.std.proofs.Common.{◌≡◌, ◌≤◌, length, drop}
use Rattle.serde_json.specs.Data.{no_members}
use Rattle.acn_grammar.specs.View.{fields_view, places_view}
use Rattle.acn_json.specs.Lines.{fields_json}
use Rattle.acn_json.specs.Spots.{members_at, json_at, AreWithin}
use Rattle.acn_json.proofs.spots.spots_of.Given as goal

abbrev pub invariant-loop-k : goal.invariant-loop-k
invariant-loop-k l = record {
  room : l.at ≤ length l.places;
  within : AreWithin (length l.fields) (length l.places) l.known.entries;
  same : fields_json (members_at (json_at l.fields l.places) l.known.entries) (fields_view (drop l.k l.fields)) (places_view (drop l.at l.places)) ≡ fields_json no_members (fields_view l.fields) (places_view l.places);
}
