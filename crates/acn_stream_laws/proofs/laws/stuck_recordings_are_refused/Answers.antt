use Rattle.acn_bounds.proofs.Lying.{spellings_lie}
use Rattle.acn_stream_laws.proofs.Stuck.{refuses}
use Rattle.acn_stream_laws.proofs.laws.stuck_recordings_are_refused.Goals as goal

pub returns : goal.returns
returns c = λ g text limit values bytes fault i' o o' result accepted some stuck few ends empty.
    refuses g accepted some c.packets_are_prefix_free.ensures (spellings_lie g accepted c.no_fault_without_a_first.ensures c.bounds_hold.ensures) c.failures_rest_on_bits.ensures c.fronts_exclude_failures.ensures c.reaches_lie_inside.ensures
    text limit values bytes fault i' o o' stuck few result ends empty
