use Rattle.acn_packet_laws.proofs.OneFault.{one_first_fault}
use Rattle.acn_packet_laws.proofs.laws.one_first_fault.Goals as goal

pub returns : goal.returns
returns c = one_first_fault
