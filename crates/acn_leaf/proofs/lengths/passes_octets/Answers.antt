use Rattle.acn_leaf.proofs.CodeLengths.{power-small}
use Rattle.acn_leaf.proofs.lengths.passes_octets.Goals as goal

pub pow-requires : goal.pow-requires
pow-requires c = power-small c.args.octets c.requires
