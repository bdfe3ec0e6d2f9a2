use Rattle.std.proofs.Common.{rules, FitsSigned, sym, ◌∙◌, subst}
use Rattle.std.proofs.lemmas.Int.{to_z-of_z}
use Rattle.std.specs.Int.{w128}
use Rattle.std.specs.Prelude.{pos}
use Rattle.acn_num.specs.Ranges.{In}
use Rattle.acn_extreme_numbers.proofs.Picking.{shared, shared_low, shared_near, shared_high}
use Rattle.acn_extreme_numbers.proofs.numbers.with_line.Goals as goal

pub with_three-requires-clause-low : goal.with_three-requires-clause-low
with_three-requires-clause-low c =
    let s = shared c.args.range.now c.args.line.now _ _ c.greater-low.ensures c.less-high.ensures (sym c.is_at_most.ensures ∙ c.if-is_at_most.true) in
    shared_low c.args.leaf.now.set c.args.range.now c.args.line.now _ _ c.requires.part s

pub with_three-requires-clause-near : goal.with_three-requires-clause-near
with_three-requires-clause-near c =
    let s = shared c.args.range.now c.args.line.now _ _ c.greater-low.ensures c.less-high.ensures (sym c.is_at_most.ensures ∙ c.if-is_at_most.true) in
    let fits : FitsSigned w128 c.nearest_key-near.result = search rules in
    rw (to_z-of_z w128 c.nearest_key-near.result fits) (subst (In c.args.leaf.now.set) (sym c.nearest_key-near.ensures) (shared_near c.args.leaf.now.set c.args.range.now c.args.line.now _ _ (pos 0) c.requires.part s))

pub with_three-requires-clause-high : goal.with_three-requires-clause-high
with_three-requires-clause-high c =
    let s = shared c.args.range.now c.args.line.now _ _ c.greater-low.ensures c.less-high.ensures (sym c.is_at_most.ensures ∙ c.if-is_at_most.true) in
    shared_high c.args.leaf.now.set c.args.range.now c.args.line.now _ _ c.requires.part s
