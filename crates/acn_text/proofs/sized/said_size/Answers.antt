use Rattle.std.proofs.Common.{arith, subst}
use Rattle.std.proofs.Math.Nat.{pow-le-pow_right}
use Rattle.acn_ints.proofs.FixedCodes.{taken_below}
use Rattle.acn_grammar.specs.declared.node.SizeRule.{SizeRule}
use Rattle.acn_text.specs.Steps.{RuleFits}
use Rattle.acn_text.proofs.sized.said_size.Goals as goal

pub overflow_add-result : goal.overflow_add-result
overflow_add-result c =
    let fits = subst (λ (r : SizeRule). RuleFits r) c.in-Prefix.is c.requires.fits in
    let low = fits.0 in
    let o = taken_below c.in-Prefix.width c.args.cur.now c.take.new.self c.in-Ok.v (record { within = c.in-Ok.ensures.within; value = c.in-Ok.ensures.value; moved = c.in-Ok.ensures.moved }) in
    let p = pow-le-pow_right {n = 2} (omega arith) {i = c.in-Prefix.width} {j = 17} fits.1 in
    record { fits = omega (arith, low, o, p) }
