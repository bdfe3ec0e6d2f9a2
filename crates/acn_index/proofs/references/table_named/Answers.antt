use Rattle.std.proofs.Common.{Some, None, ◌∙◌}
use Rattle.acn_index.specs.Views.{index_view}
use Rattle.acn_index.proofs.Mapped.{table_first}
use Rattle.acn_index.proofs.references.table_named.Goals as goal

pub returns-in_err-k : goal.returns-in_err-k
returns-in_err-k c = rw c.from_residual.ensures (table_first (index_view c.args.index.now) c.args.index.now.maps c.args.index.now.mapped c.args.name.now None (c.in_err-k.ensures {u = tt}).first)

pub returns : goal.returns
returns c = c.table_at.ensures ∙ table_first (index_view c.args.index.now) c.args.index.now.maps c.args.index.now.mapped c.args.name.now (Some c.in_ok-k.k) (c.in_ok-k.ensures {u = tt}).first
