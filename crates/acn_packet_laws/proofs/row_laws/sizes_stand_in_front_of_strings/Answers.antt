use Rattle.acn_packet_laws.proofs.SizeRows.{sizes_stand_in_front_of_strings_law}
use Rattle.acn_packet_laws.proofs.row_laws.sizes_stand_in_front_of_strings.Goals as goal

pub returns : goal.returns
returns c = sizes_stand_in_front_of_strings_law
