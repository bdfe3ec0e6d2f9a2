use Rattle.std.proofs.Common.{◌<◌, ◌^◌, length, subst, List, ℕ, ℤ}
use Rattle.acn_ints.proofs.LeafBounds.{leaf_fits}
use Rattle.acn_ints.proofs.reader.read_num.Goals as goal

pub read_coding-requires : goal.read_coding-requires
read_coding-requires c = leaf_fits c.args.leaf.now c.requires (subst (λ (items : List (List ℕ × ℤ)). length items < 2 ^ 64) c.items.ensures c.item_count-items.ensures.small)

pub number_of-requires-clause-table : goal.number_of-requires-clause-table
number_of-requires-clause-table c = let f = leaf_fits c.args.leaf.now c.requires (subst (λ (items : List (List ℕ × ℤ)). length items < 2 ^ 64) c.items.ensures c.item_count-items.ensures.small) in f.table

pub number_of-requires-clause-apart : goal.number_of-requires-clause-apart
number_of-requires-clause-apart c = let f = leaf_fits c.args.leaf.now c.requires (subst (λ (items : List (List ℕ × ℤ)). length items < 2 ^ 64) c.items.ensures c.item_count-items.ensures.small) in f.apart
