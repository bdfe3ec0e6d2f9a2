use Rattle.std.proofs.Common.{◌≡◌, drop}
use Rattle.std.specs.Prelude.{map}
use Rattle.acn_asn_syntax.specs.View.{seen_meet, seen_part, meets_of, parts_of}
use Rattle.acn_constraint.specs.Asks.{asks_meets, asks_parts}
use Rattle.acn_constraint.proofs.asks.+asks.Given as goal

abbrev pub invariant-meets_ask-loop-meet : goal.invariant-meets_ask-loop-meet
invariant-meets_ask-loop-meet l = asks_meets (meets_of (map seen_meet (drop l.meet-index l.more))) ≡ asks_meets (meets_of (map seen_meet l.more))

abbrev pub invariant-parts_ask-loop-part : goal.invariant-parts_ask-loop-part
invariant-parts_ask-loop-part l = asks_parts (parts_of (map seen_part (drop l.part-index l.more))) ≡ asks_parts (parts_of (map seen_part l.more))
