use Rattle.acn_packet_laws.proofs.OneRefusals.{one_refusal}
use Rattle.acn_packet_laws.proofs.laws.one_refusal.Goals as goal

pub returns : goal.returns
returns c = one_refusal
