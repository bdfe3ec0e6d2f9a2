use Rattle.std.proofs.Common.{◌+◌, ◌*◌, append_assoc, arith}
use Rattle.std.proofs.lemmas.Grind.{common_steps}
use Rattle.acn_terminators.proofs.Octets.{octets-turn, octets-end}
use Rattle.acn_terminators.proofs.ends.octets.Goals as goal

pub loop-k-preserved : goal.loop-k-preserved
loop-k-preserved c =
    let bits = c.bits-bits.result.now in
    let k = c.loop-k.k in
    let step = octets-turn bits (8 * k) (8 * (k + 1)) _ c.octet.result (omega arith) (omega arith) (omega arith) c.octet.ensures in
    record {
      count = grind (arith, common_steps);
      same = rw (c.push.ensures.items, append_assoc, ← step) c.loop-k.invariant.same;
    }

pub returns : goal.returns
returns c =
    let bits = c.bits-bits.result.now in
    let step = octets-end bits (8 * c.loop-k.k) (omega arith) in
    grind (arith, common_steps)
