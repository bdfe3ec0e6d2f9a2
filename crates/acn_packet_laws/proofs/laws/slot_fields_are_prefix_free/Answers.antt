use Rattle.acn_packet_laws.proofs.NodeLaws.{slot_fields_prefix_free}
use Rattle.acn_packet_laws.proofs.laws.slot_fields_are_prefix_free.Goals as goal

pub returns : goal.returns
returns c = slot_fields_prefix_free
