use Rattle.std.proofs.Common.{rules, ◌≡◌, ◌≤◌, false, length, nat_lt, sym, ap, subst, arith}
use Rattle.std.proofs.lemmas.Bool.Decides.{nat_tests}
use Rattle.acn_fill.specs.declared.spot.Spot.{Spot}
use Rattle.std.proofs.Common.{List}
use Rattle.acn_fill.specs.Table.{Table, Distinct}
use Rattle.acn_fill.proofs.Few.{all_begun}
use Rattle.acn_fill.proofs.table.Fills.can_begin.Goals as goal

pub returns-clause-full : goal.returns-clause-full
returns-clause-full g c =
    let same = ap (λ (z : Table). z.spots) c.self.view_is in
    let long : length c.self.inside.spots.items ≡ length c.args.self.now.spots = ap length same in
    let is = c.len.ensures.value in
    λ h. all_begun c.args.self.now _ (subst (λ (z : List Spot). Distinct z) same c.self.invariant.1) (full c.len.result _ (length c.self.inside.spots.items) (length c.args.self.now.spots) is long h)
  where
    full : (n most here there : Rattle.std.proofs.Common.ℕ) → n ≡ here → here ≡ there → nat_lt n most ≡ false → most ≤ there
    full n most here there e f h = grind (arith, nat_tests)
