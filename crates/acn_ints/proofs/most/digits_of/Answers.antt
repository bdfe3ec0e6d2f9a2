use Rattle.std.proofs.Common.{subst, ◌≡◌, arith}
use Rattle.acn_grammar.specs.Length.{digit_count}
use Rattle.acn_ints.proofs.MostLemmas.{digits_are}
use Rattle.acn_ints.proofs.most.digits_of.Goals as goal

pub returns-then-power-k-clause-count : goal.returns-then-power-k-clause-count
returns-then-power-k-clause-count c =
    let p = c.loop-count.invariant.power in
    let t = c.if-power-k.true in
    digits_are c.args.k c.loop-count.count c.loop-count.invariant.some c.loop-count.invariant.few c.loop-count.invariant.low (λ _. omega (arith, p, t))

pub returns-clause-count : goal.returns-clause-count
returns-clause-count c =
    let few = c.loop-count.invariant.few in
    let last : c.loop-count.count ≡ 20 = omega (arith, few, c.loop-count-test.false) in
    subst (λ i. i ≡ digit_count c.args.k) last (digits_are c.args.k c.loop-count.count c.loop-count.invariant.some few c.loop-count.invariant.low (λ less. absurd (omega (arith, less, last))))
