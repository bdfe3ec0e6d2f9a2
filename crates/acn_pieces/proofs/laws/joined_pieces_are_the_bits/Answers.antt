use Rattle.acn_pieces.proofs.JoinedBits.{joined_bits}
use Rattle.acn_pieces.proofs.laws.joined_pieces_are_the_bits.Goals as goal

pub returns : goal.returns
returns c = joined_bits
