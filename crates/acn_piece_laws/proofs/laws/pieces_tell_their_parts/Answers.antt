use Rattle.acn_piece_laws.proofs.Telling.{pieces_tell}
use Rattle.acn_piece_laws.proofs.laws.pieces_tell_their_parts.Goals as goal

pub returns : goal.returns
returns c = pieces_tell c.accepted_is_sound.ensures c.each_number_has_a_code.ensures
