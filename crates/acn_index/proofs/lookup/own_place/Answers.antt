use Rattle.std.proofs.Common.{◌∙◌}
use Rattle.acn_index.specs.Views.{index_view}
use Rattle.acn_index.proofs.Mapped.{own_first, no_own}
use Rattle.acn_index.proofs.lookup.own_place.Goals as goal

pub returns-in_err-own : goal.returns-in_err-own
returns-in_err-own c = rw c.from_residual.ensures (no_own (index_view c.args.index.now) c.args.index.now.maps c.args.index.now.mapped c.args.sort c.args.name.now c.args.k (c.in_err-own.ensures {u = tt}))

pub returns : goal.returns
returns c =
    own_first (index_view c.args.index.now) c.args.index.now.maps c.args.index.now.mapped c.args.sort c.args.name.now c.args.k c.in_ok-own.own.now (c.in_ok-own.ensures {u = tt}) c.get.result (λ all e. c.get.ensures.first all (c.of_sort.ensures ∙ e))
