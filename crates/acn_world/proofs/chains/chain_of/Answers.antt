use Rattle.std.proofs.Common.{◌∙◌, ap}
use Rattle.std.specs.Prelude.{map}
use Rattle.acn_index.specs.Views.{index_view}
use Rattle.acn_index.specs.Linked.{link_view}
use Rattle.acn_world.specs.Chained.{constraints_view, entries_view}
use Rattle.acn_world.proofs.Reversed.{map_reverse, gathered}
use Rattle.acn_world.proofs.chains.chain_of.Goals as goal

pub returns : goal.returns
returns c =
    gathered (index_view c.args.index.now) (link_view c.args.first) (link_view c.last_link-base.result) (map link_view c.in_ok-along.along.items) (map link_view c.reverse.new.self.items) (constraints_view c.in_ok-constraints.constraints) (entries_view c.in_ok-entries.entries)
    (c.in_ok-along.ensures {u = tt})
    (ap (map link_view) c.reverse.ensures.items ∙ map_reverse link_view c.in_ok-along.along.items)
    (rw c.as_slice.ensures.value at c.last_link-base.ensures)
    (rw c.as_slice-2.ensures.value at (c.in_ok-constraints.ensures {u = tt}))
    (rw c.as_slice-3.ensures.value at (c.in_ok-entries.ensures {u = tt}))
