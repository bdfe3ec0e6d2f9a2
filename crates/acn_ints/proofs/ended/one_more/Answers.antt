use Rattle.std.proofs.Common.{refl, ap, ◌+◌, ◌*◌, ◌≡◌, arith}
use Rattle.acn_ints.proofs.EndedLemmas.{so_far_more}
use Rattle.acn_ints.proofs.ended.one_more.Goals as goal

pub returns-else-so_far-eq0-clause-digits : goal.returns-else-so_far-eq0-clause-digits
returns-else-so_far-eq0-clause-digits c = λ ds s.
    let same : c.from.result ≡ c.args.digit = omega (arith, c.from.ensures) in
    let differs = c.if-so_far-eq0.false in
    so_far_more ds c.args.so_far.count c.args.so_far.value c.args.digit (c.args.so_far.count + 1) (10 * c.args.so_far.value + c.from.result) c.args.so_far.leading_zero c.args.so_far.leading_zero c.requires.digit refl (ap (λ k. 10 * c.args.so_far.value + k) same) (λ e. absurd (differs e)) (λ e. refl) s
