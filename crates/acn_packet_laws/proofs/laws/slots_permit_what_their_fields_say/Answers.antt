use Rattle.acn_packet_laws.proofs.SoundLaid.{slots_permit_what_their_fields_say}
use Rattle.acn_packet_laws.proofs.laws.slots_permit_what_their_fields_say.Goals as goal

pub returns : goal.returns
returns c = slots_permit_what_their_fields_say
