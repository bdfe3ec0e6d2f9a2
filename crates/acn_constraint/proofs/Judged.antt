-- What is answered behind the faults that are tried first.
use Rattle.std.proofs.Common.{◌≡◌, Bool, true, false, Option, Some, None, Result, Ok, Err, refl, ap, ◌∙◌, subst}
use Rattle.std.specs.Prelude.{ℤ}
use Rattle.acn_index.specs.World.{World}
use Rattle.acn_index.specs.Chains.{ChainOf}
use Rattle.acn_constraint.specs.Constraints.{Fault, not_here, judged, unless, unless_low, base_is, constraints_of, first_low}
use Rattle.acn_set_elements.specs.Stands.{all_stand}
use Rattle.acn_constraint.specs.Views.{Refused, Answers}
use Rattle.acn_constraint.specs.declared.fault.ConstraintFault.{ConstraintFault}

abbrev passed : Result (Unit {0}) Fault
passed = Ok tt

-- a fault, or this in place of nothing
abbrev instead : {A : Type 0} → Result A Fault → Result (Unit {0}) Fault → Result A Fault
instead next (Ok u) = next
instead next (Err f) = Err f

at_once : {A : Type 0} (b : Bool) (o : Option ℤ) (next : Result A Fault) → instead next (unless b not_here (unless_low o passed)) ≡ unless b not_here (unless_low o next)
at_once false o next = refl
at_once true None next = refl
at_once true (Some x) next = refl

behind : {A : Type 0} (w : World) (c : ChainOf) (next : Result A Fault) → instead next (judged w c passed) ≡ judged w c next
unfolding judged
behind w c next = at_once (all_stand w (base_is c) (constraints_of c)) (first_low w c) next

pub goes_on : {A : Type 0} (w : World) (c : ChainOf) (next : Result A Fault) → passed ≡ judged w c passed → next ≡ judged w c next
goes_on w c next h = ap (instead next) h ∙ behind w c next

pub stops : {A : Type 0} (w : World) (c : ChainOf) (next : Result A Fault) (f : Option Fault) → Refused f (judged w c passed) → Refused f (judged w c next)
stops w c next None h = tt
stops w c next (Some f) h = ap (instead next) h ∙ behind w c next

pub answers_at : {A B : Type 0} (view : A → B) (r : Result A ConstraintFault) {want next : Result B Fault} → next ≡ want → Answers view r next → Answers view r want
answers_at view r e h = subst (λ (x : Result _ Fault). Answers view r x) e h
