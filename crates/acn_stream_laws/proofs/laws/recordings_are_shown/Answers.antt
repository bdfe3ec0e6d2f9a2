use Rattle.acn_bounds.proofs.Lying.{spellings_lie}
use Rattle.acn_stream_laws.proofs.Whole.{shown}
use Rattle.acn_stream_laws.proofs.laws.recordings_are_shown.Goals as goal

pub returns : goal.returns
returns c = λ g text limit values bytes i' o o' result accepted some recording few ends empty.
    shown g accepted some c.packets_are_prefix_free.ensures (spellings_lie g accepted c.no_fault_without_a_first.ensures c.bounds_hold.ensures)
    limit values bytes i' o o' recording c.failures_rest_on_bits.ensures c.fronts_exclude_failures.ensures c.reaches_lie_inside.ensures text few result ends empty
