use Rattle.std.proofs.Common.{Some, None, ◌∙◌}
use Rattle.acn_asn_syntax.specs.View.{module_view}
use Rattle.acn_index.specs.Views.{index_view}
use Rattle.acn_index.proofs.Mapped.{import_first, no_import}
use Rattle.acn_index.proofs.lookup.import_of.Goals as goal

pub returns-in_err-own : goal.returns-in_err-own
returns-in_err-own c = rw c.from_residual-in_err-own.ensures (no_import (index_view c.args.index.now) c.args.index.now.maps c.args.index.now.mapped c.args.name.now c.args.k (c.in_err-own.ensures {u = tt}))

pub returns-in_err-place : goal.returns-in_err-place
returns-in_err-place c =
    rw c.from_residual-in_err-place.ensures (import_first (index_view c.args.index.now) c.args.index.now.maps c.args.index.now.mapped c.args.name.now c.args.k c.in_ok-own.own.now (module_view c.in_ok-owner.owner.now) (c.in_ok-owner.ensures {u = tt}) (c.in_ok-own.ensures {u = tt}) None (c.in_err-place.ensures {u = tt}).first)

pub returns : goal.returns
returns c =
    c.import_at.ensures ∙ import_first (index_view c.args.index.now) c.args.index.now.maps c.args.index.now.mapped c.args.name.now c.args.k c.in_ok-own.own.now (module_view c.in_ok-owner.owner.now) (c.in_ok-owner.ensures {u = tt}) (c.in_ok-own.ensures {u = tt}) (Some c.in_ok-place.place) (c.in_ok-place.ensures {u = tt}).first
