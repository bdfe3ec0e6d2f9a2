use Rattle.std.proofs.Common.{ℕ}
use Rattle.acn_packing.proofs.Packings.{octets_fit}
use Rattle.acn_packing.proofs.octets.check_octets.Goals as goal

pub returns : goal.returns
returns c = octets_fit c.args.bytes.now (λ (i : ℕ). (c.type_inv.bytes i).fits)
