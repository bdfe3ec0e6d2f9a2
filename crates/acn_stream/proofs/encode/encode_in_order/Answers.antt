use Rattle.acn_stream.proofs.LinesPassing.{never_encoded}
use Rattle.acn_stream.proofs.encode.encode_in_order.Goals as goal

pub returns-in-Err-clause-ends : goal.returns-in-Err-clause-ends
returns-in-Err-clause-ends g c = never_encoded _ _ _ _
