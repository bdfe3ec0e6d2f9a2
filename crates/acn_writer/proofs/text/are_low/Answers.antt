use Rattle.std.proofs.Common.{◌≤◌, ◌+◌, length, refl, arith}
use Rattle.std.proofs.lemmas.Bool.Decides.{nat_tests}
use Rattle.acn_writer.proofs.LowRuns.{two_runs}
use Rattle.acn_writer.proofs.text.are_low.Goals as goal

pub returns-then-four_are_low : goal.returns-then-four_are_low
returns-then-four_are_low c all =
    let text = c.args.text.now in
    let few = c.if-size-lt4.false in
    let many = c.if-size-lt8.true in
    let least : 4 ≤ length text = grind (arith, nat_tests) in
    let most : length text ≤ 4 + 4 = grind (arith, nat_tests) in
    two_runs 4 text _ least most refl (c.four_are_low.ensures c.if-four_are_low.true) (c.four_are_low-then-four_are_low.ensures all)

pub returns-then-eight_are_low : goal.returns-then-eight_are_low
returns-then-eight_are_low c all =
    let text = c.args.text.now in
    let few = c.if-size-lt8.false in
    let many = c.if-size-gt16.false in
    let least : 8 ≤ length text = grind (arith, nat_tests) in
    let most : length text ≤ 8 + 8 = grind (arith, nat_tests) in
    two_runs 8 text _ least most refl (c.eight_are_low.ensures c.if-eight_are_low.true) (c.eight_are_low-then-eight_are_low.ensures all)
