use Rattle.std.proofs.Common.{◌≡◌, drop}
use Rattle.std.specs.Prelude.{map}
use Rattle.acn_asn_syntax.specs.View.{seen_meet, seen_part, meets_of, parts_of}
use Rattle.acn_constraint.specs.Sized.{sizes_meets, sizes_parts}
use Rattle.acn_constraint.proofs.sized.+sized.Given as goal

abbrev pub invariant-meets_say_size-loop-meet : goal.invariant-meets_say_size-loop-meet
invariant-meets_say_size-loop-meet l = sizes_meets (meets_of (map seen_meet (drop l.meet-index l.more))) ≡ sizes_meets (meets_of (map seen_meet l.more))

abbrev pub invariant-parts_say_size-loop-part : goal.invariant-parts_say_size-loop-part
invariant-parts_say_size-loop-part l = sizes_parts (parts_of (map seen_part (drop l.part-index l.more))) ≡ sizes_parts (parts_of (map seen_part l.more))
