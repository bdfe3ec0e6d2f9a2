use Rattle.acn_packet_laws.proofs.WorkedRows.{what_nothing_asks_about_is_least_law}
use Rattle.acn_packet_laws.proofs.row_laws.what_nothing_asks_about_is_least.Goals as goal

pub returns : goal.returns
returns c = what_nothing_asks_about_is_least_law
