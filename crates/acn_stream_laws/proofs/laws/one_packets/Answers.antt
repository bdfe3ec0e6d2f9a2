use Rattle.acn_stream_laws.proofs.Octets.{one_bits, one_octets}
use Rattle.acn_stream_laws.proofs.laws.one_packets.Goals as goal

pub returns : goal.returns
returns c = λ g values packets others accepted h k.
    let same = one_bits g accepted c.one_writing.ensures values packets others h k in
    (same, λ x y. one_octets packets others x y same)
