use Rattle.acn_packet_laws.proofs.NumberRows.{characters_with_an_end_are_least_law}
use Rattle.acn_packet_laws.proofs.row_laws.characters_with_an_end_are_least.Goals as goal

pub returns : goal.returns
returns c = characters_with_an_end_are_least_law
