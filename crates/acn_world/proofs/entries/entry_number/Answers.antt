use Rattle.acn_index.specs.Views.{index_view}
use Rattle.acn_index.proofs.Mapped.{entry_first, no_entries}
use Rattle.acn_world.proofs.entries.entry_number.Goals as goal

pub returns-in_err-names : goal.returns-in_err-names
returns-in_err-names c = rw c.from_residual.ensures (no_entries (index_view c.args.index.now) c.args.index.now.maps c.args.index.now.mapped c.args.name.now c.args.k (c.in_err-names.ensures {u = tt}))

pub returns : goal.returns
returns c = entry_first (index_view c.args.index.now) c.args.index.now.maps c.args.index.now.mapped c.args.name.now c.args.k c.in_ok-names.names.now (c.in_ok-names.ensures {u = tt}) c.get.result c.get.ensures.first
