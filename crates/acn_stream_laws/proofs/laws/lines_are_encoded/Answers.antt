use Rattle.acn_stream_laws.proofs.Lines.{encoded}
use Rattle.acn_stream_laws.proofs.Writings.{have_writings}
use Rattle.acn_stream_laws.proofs.laws.lines_are_encoded.Goals as goal

pub returns : goal.returns
returns c = λ g limit ls values bytes i' o o' result accepted some are give free few ends empty.
    encoded g limit ls values bytes i' are give (have_writings g accepted c.each_value_is_written_or_refused.ensures ls values give free) o o' some few result ends empty
