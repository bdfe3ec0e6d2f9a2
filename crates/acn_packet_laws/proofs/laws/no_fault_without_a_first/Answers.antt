use Rattle.acn_packet_laws.proofs.FirstFaults.{none_without_first}
use Rattle.acn_packet_laws.proofs.laws.no_fault_without_a_first.Goals as goal

pub returns : goal.returns
returns c = none_without_first
