use Rattle.acn_packet_laws.proofs.NamedSlots.{fields_tell_their_slots}
use Rattle.acn_packet_laws.proofs.laws.fields_tell_their_slots.Goals as goal

pub returns : goal.returns
returns c = fields_tell_their_slots
