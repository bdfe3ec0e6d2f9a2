use Rattle.acn_packet_laws.proofs.UseKinds.{uses_fit}
use Rattle.acn_packet_laws.proofs.laws.uses_fit_their_slots.Goals as goal

pub returns : goal.returns
returns c = uses_fit
