use Rattle.acn_packet_laws.proofs.SpelledMeets.{spelled_values_meet}
use Rattle.acn_packet_laws.proofs.laws.spelled_values_meet.Goals as goal

pub returns : goal.returns
returns c = spelled_values_meet
