use Rattle.std.proofs.Common.{ℤ, ap, ◌∙◌}
use Rattle.std.specs.Prelude.{map}
use Rattle.std.specs.List.{flat_map, list_all}
use Rattle.acn_grammar.specs.Leaves.{line_fine}
use Rattle.acn_extreme_numbers.specs.Tries.{line_keys, least_of}
use Rattle.acn_extreme_numbers.proofs.Picking.{tabled}
use Rattle.acn_extreme_numbers.proofs.Stepping.{firsts_are, least_both, origin_is_number}
use Rattle.acn_extreme_numbers.proofs.numbers.least_alike.Goals as goal

pub with_steps-requires-clause-key : goal.with_steps-requires-clause-key
with_steps-requires-clause-key c = rw c.origin.ensures (origin_is_number c.args.leaf.now c.requires.fine)

pub with_keys-requires-clause-lines : goal.with_keys-requires-clause-lines
with_keys-requires-clause-lines c = ap (list_all line_fine) c.items.ensures ∙ (tabled c.args.leaf.now c.in-Some.table c.requires.fine c.in-Some.is).lines

pub returns-in-Some-clause-number : goal.returns-in-Some-clause-number
returns-in-Some-clause-number c =
    least_both c.args.leaf.now c.args.best.number c.with_lows-first.result.number c.with_keys.result.number (map (λ (r : ℤ × ℤ). r.0) c.ranges-in-Some.result.now) (flat_map (line_keys c.steps-steps.result.now) c.items.result.now) c.with_lows-first.ensures.number c.with_keys.ensures.number
    ∙ ap (least_of c.args.leaf.now c.args.best.number) (firsts_are c.args.leaf.now c.in-Some.table c.ranges-in-Some.result.now c.steps-steps.result.now c.items.result.now c.in-Some.is c.ranges-in-Some.ensures.same c.steps-steps.ensures.steps c.items.ensures)
