use Rattle.acn_packet_laws.proofs.NumberRows.{little_turns_the_octets_law}
use Rattle.acn_packet_laws.proofs.row_laws.little_turns_the_octets.Goals as goal

pub returns : goal.returns
returns c = little_turns_the_octets_law
