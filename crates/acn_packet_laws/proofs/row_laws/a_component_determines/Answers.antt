use Rattle.acn_packet_laws.proofs.RequestRows.{a_component_determines_law}
use Rattle.acn_packet_laws.proofs.row_laws.a_component_determines.Goals as goal

pub returns : goal.returns
returns c = a_component_determines_law
