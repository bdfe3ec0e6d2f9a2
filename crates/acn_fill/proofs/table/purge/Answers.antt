use Rattle.std.proofs.Common.{List, ◌≡◌, ◌++◌, ◌<◌, ℕ, ℤ, pos, length, take, drop, sym, ap, ◌∙◌, get_or, arith}
use Rattle.acn_fill.specs.Table.{purged}
use Rattle.acn_fill.proofs.Pools.{purge_step, get_one}
use Rattle.acn_fill.proofs.table.purge.Goals as goal

pub loop-i-preserved-then-deref-i : goal.loop-i-preserved-then-deref-i
loop-i-preserved-then-deref-i g c =
    let pool = c.loop-i.pool.items in
    let inside : c.loop-i.i < length pool = omega (arith, c.loop-i-test.true, c.len.ensures.value) in
    let here : (get_or pool c.loop-i.i (0, pos 0)).0 ≡ c.args.slot = ap (λ (z : List (ℕ × ℤ)). (get_or z c.loop-i.i (0, pos 0)).0) (sym c.deref.ensures.0) ∙ c.if-deref-i.true in
    let step = purge_step c.args.slot pool c.loop-i.i (get_or pool c.loop-i.i (0, pos 0)) inside (get_one pool c.loop-i.i (0, pos 0) inside) here in
    record {
      within = omega (arith, c.remove.ensures.len, inside);
      same = ap (λ z. take c.loop-i.i z ++ purged c.args.slot (drop c.loop-i.i z)) c.remove.ensures.items ∙ (step ∙ c.loop-i.invariant.same);
    }
