-- A first difference and acceptance exclude each other.
use Rattle.std.proofs.Common.{◌∷◌, subst}
use Rattle.acn_compare.specs.Accepts.{AllAgree, Agree, answering, placed}
use Rattle.acn_compare.specs.declared.answer.Reason.{Reason}
use Rattle.acn_compare.specs.Laws.{DifferencesExclude}
use Rattle.acn_compare.proofs.Reading.{all_parts}

pub differences_exclude : DifferencesExclude
differences_exclude old new path reason number d accepts =
    let by = answering (placed old new) in
    let parts = all_parts (λ p. (r : Reason) → Agree by r p.old p.new) d.before (d.here ∷ d.after) (subst (AllAgree by) d.whole accepts) in
    d.least.differs (parts.1.0 reason)
