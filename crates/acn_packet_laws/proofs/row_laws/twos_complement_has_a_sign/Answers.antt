use Rattle.acn_packet_laws.proofs.NumberRows.{twos_complement_has_a_sign_law}
use Rattle.acn_packet_laws.proofs.row_laws.twos_complement_has_a_sign.Goals as goal

pub returns : goal.returns
returns c = twos_complement_has_a_sign_law
