use Rattle.acn_compare.proofs.Linked.{linked}
use Rattle.acn_compare.proofs.Reading.{front_reads}
use Rattle.acn_compare.proofs.laws.old_packets_are_read.Goals as goal

pub returns : goal.returns
returns c old new input d n fo fn accepts front =
    front_reads old new _ (linked old new fo.formed fn.formed (c.accepted_is_sound.ensures old fo) (c.accepted_is_sound.ensures new fn) accepts) accepts (λ s t e. e) input d n front
