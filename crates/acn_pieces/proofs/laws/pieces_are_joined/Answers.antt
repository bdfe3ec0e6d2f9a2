use Rattle.acn_pieces.proofs.Joining.{pieces_are_joined}
use Rattle.acn_pieces.proofs.laws.pieces_are_joined.Goals as goal

pub returns : goal.returns
returns c = pieces_are_joined
