use Rattle.acn_packet_laws.proofs.NumberRows.{a_table_maps_the_numbers_law}
use Rattle.acn_packet_laws.proofs.row_laws.a_table_maps_the_numbers.Goals as goal

pub returns : goal.returns
returns c = a_table_maps_the_numbers_law
