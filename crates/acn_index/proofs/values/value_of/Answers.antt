use Rattle.std.proofs.Common.{◌<◌, Some, sym, ap, ◌∙◌, arith}
use Rattle.acn_index.specs.Views.{index_view}
use Rattle.acn_index.specs.World.{count}
use Rattle.acn_index.specs.Values.{end_worth}
use Rattle.acn_index.proofs.LastValues.{value_unnamed, kept_never, kept_end}
use Rattle.acn_index.proofs.values.value_of.Goals as goal

pub returns-in_err-place : goal.returns-in_err-place
returns-in_err-place c = rw c.from_residual.ensures (sym (value_unnamed (index_view c.args.index.now) c.args.k c.args.name.now (sym (c.in_err-place.ensures {u = tt}))))

pub returns-in-Some-Never : goal.returns-in-Some-Never
returns-in-Some-Never c =
    kept_never (index_view c.args.index.now) c.args.index.now.lasts c.args.k c.args.name.now c.in_ok-place.place c.spot_of.result c.args.index.now.lasting
    (c.in_ok-place.ensures {u = tt}) c.spot_of.ensures (ap Some (sym c.in-Some-Never.field-0-is) ∙ c.in-Some-Never.ensures {u = tt})

pub returns-then-steps-most : goal.returns-then-steps-most
returns-then-steps-most c =
    let most = c.count-most.ensures in
    let fewer : c.in-Some-At.steps < count (index_view c.args.index.now) = omega (arith, most) in
    c.end_worth.ensures ∙ (ap (end_worth (index_view c.args.index.now)) c.place_at.ensures
    ∙ kept_end (index_view c.args.index.now) c.args.index.now.lasts c.in-Some-At.steps c.args.k c.args.name.now c.in_ok-place.place c.spot_of.result c.in-Some-At.spot c.args.index.now.lasting
    (c.in_ok-place.ensures {u = tt}) c.spot_of.ensures (ap Some (sym c.in-Some-At.field-0-is) ∙ c.in-Some-At.ensures {u = tt}) fewer)
