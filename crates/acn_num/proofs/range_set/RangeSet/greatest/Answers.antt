use Rattle.std.proofs.Common.{◌≡◌, ◌-◌, ap, subst, ◌∙◌, rules, length}
use Rattle.std.specs.Prelude.{Some, slice_get}
use Rattle.std.proofs.lemmas.Int.{to_z-of_z}
use Rattle.std.specs.Int.{w128}
use Rattle.acn_num.specs.Ranges.{Ranges}
use Rattle.acn_num.proofs.Turns.{greatest_is}
use Rattle.acn_num.proofs.range_set.RangeSet.greatest.Goals as goal

pub returns-in-Some : goal.returns-in-Some
returns-in-Some c = ap Some (to_z-of_z w128 _ (search rules)) ∙ greatest_is c.args.self.now c.in-Some.range.now (subst (λ (z : Ranges). Some c.in-Some.range.now ≡ slice_get z (length z - 1)) (c.deref.ensures.value ∙ c.self.view_is) c.in-Some.ensures.value)
