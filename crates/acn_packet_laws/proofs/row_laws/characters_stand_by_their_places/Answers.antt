use Rattle.acn_packet_laws.proofs.WorkedRows.{characters_stand_by_their_places_law}
use Rattle.acn_packet_laws.proofs.row_laws.characters_stand_by_their_places.Goals as goal

pub returns : goal.returns
returns c = characters_stand_by_their_places_law
