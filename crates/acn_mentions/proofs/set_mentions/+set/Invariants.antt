use Rattle.std.proofs.Common.{◌≡◌, drop, ◌++◌}
use Rattle.std.specs.Prelude.{map}
use Rattle.acn_asn_syntax.specs.View.{seen_meet, seen_part, meets_of, parts_of}
use Rattle.acn_mentions.specs.Mentioned.{governor_view, mentions_view}
use Rattle.acn_mentions.specs.Mentions.{in_meets, in_parts}
use Rattle.acn_mentions.proofs.set_mentions.+set.Given as goal

abbrev pub invariant-push_meets-loop-meet : goal.invariant-push_meets-loop-meet
invariant-push_meets-loop-meet l = mentions_view l.all.items ++ in_meets (governor_view l.place.governor) l.place.role (meets_of (map seen_meet (drop l.meet-index l.meets))) ≡ mentions_view l.fn.all.items ++ in_meets (governor_view l.place.governor) l.place.role (meets_of (map seen_meet l.meets))

abbrev pub invariant-push_parts-loop-part : goal.invariant-push_parts-loop-part
invariant-push_parts-loop-part l = mentions_view l.all.items ++ in_parts (governor_view l.place.governor) l.place.role (parts_of (map seen_part (drop l.part-index l.parts))) ≡ mentions_view l.fn.all.items ++ in_parts (governor_view l.place.governor) l.place.role (parts_of (map seen_part l.parts))
