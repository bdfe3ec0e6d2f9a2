use Rattle.acn_packet_laws.proofs.Unbreached.{unbreached}
use Rattle.acn_packet_laws.proofs.laws.spellings_have_no_breach.Goals as goal

pub returns : goal.returns
returns c = λ root g mode path env d at bs t. unbreached root mode g path env d at bs t
