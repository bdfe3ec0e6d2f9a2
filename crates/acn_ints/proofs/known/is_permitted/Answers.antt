use Rattle.std.proofs.Common.{ap, sym, ◌∙◌, arith, pos}
use Rattle.acn_num.specs.Ranges.{has}
use Rattle.acn_ints.proofs.Keys.{in_range}
use Rattle.acn_ints.proofs.known.is_permitted.Goals as goal

pub returns-then-is_in : goal.returns-then-is_in
returns-then-is_in c =
    let inside = c.if-at-ranges.true in
    in_range c.ranges-ranges.result.now c.range_place-at.result (pos 0, pos 0) c.args.x.now (omega (arith, inside)) (sym c.is_in.ensures ∙ c.if-is_in.true)
    ∙ ap (λ set. has set c.args.x.now) c.ranges-ranges.ensures.same
