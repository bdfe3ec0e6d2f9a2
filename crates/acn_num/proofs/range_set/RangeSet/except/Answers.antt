use Rattle.std.proofs.Common.{◌≡◌, sym, subst, ◌∙◌}
use Rattle.std.specs.Prelude.{not, ◌&&◌, IfOk}
use Rattle.acn_num.specs.Ranges.{Ranges, has, meet, except}
use Rattle.acn_num.proofs.Members.{has_meet, has_except}
use Rattle.acn_num.proofs.Turns.{ok_map}
use Rattle.acn_num.proofs.range_set.RangeSet.except.Goals as goal

pub returns-clause-ranges : goal.returns-clause-ranges
unfolding except
returns-clause-ranges c = subst (λ (z : Ranges). IfOk c.meet.result (λ s. s ≡ meet c.args.self.now z)) c.in_ok-rest.ensures.ranges c.meet.ensures.ranges

pub returns-clause-numbers : goal.returns-clause-numbers
returns-clause-numbers c = ok_map c.meet.result _ _ (λ s h x. h x ∙ (sym (has_meet c.args.self.now c.in_ok-rest.rest x) ∙ subst (λ (z : Ranges). has (meet c.args.self.now z) x ≡ (has c.args.self.now x && not (has c.args.other.now x))) (sym c.in_ok-rest.ensures.ranges) (has_except c.args.self.now c.args.other.now x c.meet.ensures.ordered.0 c.in_ok-rest.ensures.ordered))) c.meet.ensures.numbers
