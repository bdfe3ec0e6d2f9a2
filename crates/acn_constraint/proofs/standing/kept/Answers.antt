use Rattle.std.proofs.Common.{[], ◌∷◌, ◌++◌, Some, ap, subst, ◌∙◌, refl}
use Rattle.acn_num.specs.Ranges.{Ranges, AreRanges}
use Rattle.acn_constraint.proofs.Stands.{kept_inside, kept_taken}
use Rattle.acn_constraint.proofs.standing.kept.Goals as goal

pub returns-then-ranges-lt2 : goal.returns-then-ranges-lt2
returns-then-ranges-lt2 c =
    kept_inside c.args.standing c.args.stood.now c.args.left _ (subst AreRanges c.ranges-2.ensures.same c.ranges-2.ensures.ordered) refl (ap (λ (z : Ranges). Some z) (c.in_ok-inside.ensures {u = tt})) refl

pub returns : goal.returns
returns c =
    kept_taken c.args.standing c.args.stood.now c.args.left _ (subst AreRanges c.ranges-2.ensures.same c.ranges-2.ensures.ordered) refl refl
    (c.in_ok-push.ensures.items ∙ ap (λ (z : Ranges). c.args.standing.taken.items ++ z ∷ []) c.in_ok-next.ensures.ranges)
