use Rattle.acn_stream_laws.proofs.Naming.{names}
use Rattle.acn_stream_laws.proofs.laws.refused_lines_are_named.Goals as goal

pub returns : goal.returns
returns c = λ g limit ls bytes why i' o o' result accepted some h few ends empty.
    names g accepted c.each_value_is_written_or_refused.ensures c.refused_is_not_spelled.ensures c.one_refusal.ensures limit ls bytes why i' o o' h some few result ends empty
