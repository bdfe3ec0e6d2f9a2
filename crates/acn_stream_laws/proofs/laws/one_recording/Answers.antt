use Rattle.acn_bounds.proofs.Lying.{spellings_lie}
use Rattle.acn_stream_laws.proofs.Refusing.{one_recording as one_list}
use Rattle.acn_stream_laws.proofs.laws.one_recording.Goals as goal

pub returns : goal.returns
returns c = λ g values others bytes accepted some h k.
    one_list g accepted some c.packets_are_prefix_free.ensures (spellings_lie g accepted c.no_fault_without_a_first.ensures c.bounds_hold.ensures) values others bytes h k
