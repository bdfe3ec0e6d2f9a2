use Rattle.std.proofs.Common.{◌<◌, ◌^◌, length, subst, List, ℕ, ℤ}
use Rattle.acn_ints.proofs.LeafBounds.{leaf_fits}
use Rattle.acn_num.specs.Ranges.{AreRanges}
use Rattle.acn_ints.proofs.Lists.{short_num, width_is_length}
use Rattle.acn_ints.proofs.Permitted.{can_code}
use Rattle.acn_ints.proofs.writer.check_permitted.Goals as goal

pub returns-clause-fits : goal.returns-clause-fits
returns-clause-fits c = leaf_fits c.args.leaf.now c.requires.fine (subst (λ (items : List (List ℕ × ℤ)). length items < 2 ^ 64) c.items.ensures c.item_count-items.ensures.small)

pub returns-clause-can : goal.returns-clause-can
returns-clause-can c = can_code c.args.leaf.now c.args.x.now c.requires.fine c.requires.permitted (subst AreRanges c.ranges-ranges.ensures.same c.ranges-ranges.ensures.ordered)

pub returns-clause-short : goal.returns-clause-short
returns-clause-short c = short_num c.args.leaf.now c.args.x.now c.requires.fine (leaf_fits c.args.leaf.now c.requires.fine (subst (λ (items : List (List ℕ × ℤ)). length items < 2 ^ 64) c.items.ensures c.item_count-items.ensures.small))

pub returns-clause-one_width : goal.returns-clause-one_width
returns-clause-one_width c = λ w e. width_is_length c.args.leaf.now c.args.x.now w (can_code c.args.leaf.now c.args.x.now c.requires.fine c.requires.permitted (subst AreRanges c.ranges-ranges.ensures.same c.ranges-ranges.ensures.ordered)) e
