use Rattle.std.proofs.Common.{◌≡◌, ◌++◌, List, Option, drop, true}
use Rattle.serde_json.specs.Written.{members_text}
use Rattle.acn_grammar.specs.Grammar.{Data, no_places}
use Rattle.acn_grammar.specs.View.{fields_view}
use Rattle.acn_json.specs.Kept.{Kept}
use Rattle.acn_lines.specs.Keys.{AreShort}
use Rattle.acn_lines.specs.Order.{AreKeyed, ArePlaced, in_order}
use Rattle.acn_reads.specs.Decoded.{placed}
use Rattle.acn_transcode.specs.Puts.{AreLaid}
use Rattle.acn_transcode.proofs.members.put_members.Given as goal

abbrev pub invariant-loop-turn : goal.invariant-loop-turn
invariant-loop-turn l = record {
  short : AreShort (drop l.turn-index l.turns);
  laid : (ds : List (Option Data)) × AreLaid l.aside (fields_view l.fields) l.parts ds × AreKeyed (fields_view l.fields) (drop l.turn-index l.turns) × ArePlaced (fields_view l.fields) (drop l.turn-index l.turns);
  same : (ds : List (Option Data)) → AreLaid l.aside (fields_view l.fields) l.parts ds → AreKeyed (fields_view l.fields) l.turns → ArePlaced (fields_view l.fields) l.turns → AreKeyed (fields_view l.fields) (drop l.turn-index l.turns) × ArePlaced (fields_view l.fields) (drop l.turn-index l.turns) × (l.text.items ++ members_text true (in_order (fields_view l.fields) (drop l.turn-index l.turns) (placed ds no_places)) ≡ l.initial.text.items ++ members_text true (in_order (fields_view l.fields) l.turns (placed ds no_places)));
  kept : Kept l.initial.text.items l.text.items;
}
