use Rattle.acn_packet_laws.proofs.NumberRows.{items_have_places_and_numbers_law}
use Rattle.acn_packet_laws.proofs.row_laws.items_have_places_and_numbers.Goals as goal

pub returns : goal.returns
returns c = items_have_places_and_numbers_law
