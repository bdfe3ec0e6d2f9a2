use Rattle.std.proofs.Common.{ap, ◌∙◌, arith}
use Rattle.std.specs.Prelude.{option_map, slice_get}
use Rattle.std.specs.List.{position_from}
use Rattle.acn_asn_syntax.specs.Mirror.{AsnModule}
use Rattle.acn_index.specs.World.{place}
use Rattle.acn_index.specs.Views.{index_view}
use Rattle.acn_index.specs.Sorts.{meant}
use Rattle.acn_index.specs.Lookup.{own}
use Rattle.acn_index.proofs.Mapped.{own_small, mapped_inside}
use Rattle.acn_index.proofs.lookup.own.Goals as goal

pub overflow_cast-result : goal.overflow_cast-result
overflow_cast-result c =
    let h = own_small (index_view c.args.index.now) c.args.index.now.maps c.args.index.now.mapped c.args.sort c.args.name.now c.args.k c.in_ok-item.item c.args.index.now.small (c.in_ok-item.ensures {u = tt}) in
    omega (arith, h)

pub returns-in_err-item : goal.returns-in_err-item
unfolding own
returns-in_err-item c =
    rw c.from_residual.ensures (ap (option_map (place c.args.k)) (c.in_err-item.ensures {u = tt}) ∙ mapped_inside (λ (m : AsnModule). position_from (meant c.args.sort c.args.name.now) 0 m.items) (place c.args.k) (slice_get (index_view c.args.index.now).modules c.args.k))

pub returns : goal.returns
unfolding own
returns c =
    ap (option_map (place c.args.k)) (c.in_ok-item.ensures {u = tt}) ∙ mapped_inside (λ (m : AsnModule). position_from (meant c.args.sort c.args.name.now) 0 m.items) (place c.args.k) (slice_get (index_view c.args.index.now).modules c.args.k)
