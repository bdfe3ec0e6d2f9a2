use Rattle.std.proofs.Common.{sym, subst}
use Rattle.acn_num.specs.Ranges.{In}
use Rattle.acn_extreme_numbers.proofs.Picking.{nearest_in}
use Rattle.acn_extreme_numbers.proofs.numbers.with_range.Goals as goal

pub with_three-requires-clause-near : goal.with_three-requires-clause-near
with_three-requires-clause-near c = subst (In c.args.leaf.now.set) (sym c.nearest-near.ensures) (nearest_in c.args.leaf.now.set c.args.range.now _ c.requires.part)
