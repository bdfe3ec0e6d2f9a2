use Rattle.std.proofs.Common.{ap, arith, length}
use Rattle.std.proofs.lemmas.List.{length-take}
use Rattle.acn_packet_laws.proofs.laws.fronts_rest_on_bits.Goals as goal

pub returns : goal.returns
returns c = λ root input other d n f e.
    let within = f.within in
    record { within = omega (arith, length-take n other, length-take n input, ap length e); spelled = rw e f.spelled }
