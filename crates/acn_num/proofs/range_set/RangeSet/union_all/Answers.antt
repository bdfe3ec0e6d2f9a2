use Rattle.std.proofs.Common.{subst, ◌∙◌}
use Rattle.acn_num.specs.Ranges.{Ranges, AreRanges}
use Rattle.acn_num.proofs.Turns.{ok_map}
use Rattle.acn_num.proofs.Unions.{union_is_unions}
use Rattle.acn_num.proofs.range_set.RangeSet.union_all.Goals as goal

pub returns-clause-ranges : goal.returns-clause-ranges
returns-clause-ranges c =
    let all = c.in_ok-joined.ensures {u = tt} in
    ok_map c.union.result _ _
    (λ s is. is ∙ union_is_unions c.args.self.now c.in_ok-joined.joined c.args.others.now (subst (λ (z : Ranges). AreRanges z) c.self.view_is c.self.invariant) (subst (λ (z : Ranges). AreRanges z) c.joined.view_is c.joined.invariant) all.each all.numbers)
    c.union.ensures.ranges
