use Rattle.acn_packet_laws.proofs.WorkedRows.{each_digit_is_below_ten_law}
use Rattle.acn_packet_laws.proofs.row_laws.each_digit_is_below_ten.Goals as goal

pub returns : goal.returns
returns c = each_digit_is_below_ten_law
