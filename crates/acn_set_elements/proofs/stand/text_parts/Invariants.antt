use Rattle.std.proofs.Common.{◌≡◌, drop}
use Rattle.std.specs.Prelude.{map}
use Rattle.acn_asn_syntax.specs.View.{seen_part, parts_of}
use Rattle.acn_world.specs.Viewed.{world_view}
use Rattle.acn_set_elements.specs.Stands.{text_parts}
use Rattle.acn_set_elements.proofs.stand.text_parts.Given as goal

abbrev pub invariant-loop-part : goal.invariant-loop-part
invariant-loop-part l = text_parts (world_view l.world) l.owner (parts_of (map seen_part (drop l.part-index l.more))) ≡ text_parts (world_view l.world) l.owner (parts_of (map seen_part l.more))
