use Rattle.acn_packet_laws.proofs.NodePaths.{each_path_has_its_number}
use Rattle.acn_packet_laws.proofs.laws.each_path_has_its_number.Goals as goal

pub returns : goal.returns
returns c = each_path_has_its_number
