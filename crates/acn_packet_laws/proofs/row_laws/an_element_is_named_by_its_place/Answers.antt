use Rattle.acn_packet_laws.proofs.PlaceRows.{an_element_is_named_by_its_place_law}
use Rattle.acn_packet_laws.proofs.row_laws.an_element_is_named_by_its_place.Goals as goal

pub returns : goal.returns
returns c = an_element_is_named_by_its_place_law
