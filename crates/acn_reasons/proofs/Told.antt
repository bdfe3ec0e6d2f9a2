-- Faults of constraints that are told on.
use Rattle.std.proofs.Common.{◌≡◌, Bool, true, Option, Some, None, ap, ◌∙◌, option_map}
use Rattle.std.specs.Prelude.{Result, Ok, is_some}
use Rattle.acn_num.specs.Ranges.{Ranges}
use Rattle.acn_constraint.specs.Constraints.{Fault}
use Rattle.acn_constraint.specs.Views.{fault_of, Refused}
use Rattle.acn_constraint.specs.declared.fault.ConstraintFault.{ConstraintFault}
use Rattle.acn_reasons.specs.Constrained.{fault_in, size_fault}

seen : {B : Type 0} (o : Option Fault) (want : Result B Fault) → is_some o ≡ true → Refused o want → Some o ≡ option_map Some (fault_in want)
seen None want h r = absurd (cc h)
seen (Some f) want h r = ap (λ x. option_map Some (fault_in x)) r

seen_size : (needed : Bool) (o : Option Fault) (want : Result (Option Ranges) Fault) → is_some o ≡ true → Refused o want → Some o ≡ option_map Some (size_fault needed want)
seen_size needed None want h r = absurd (cc h)
seen_size needed (Some f) want h r = ap (λ x. option_map Some (size_fault needed x)) r

pub none_told : {B : Type 0} (x : B) (want : Result B Fault) → Ok x ≡ want → None ≡ option_map Some (fault_in want)
none_told x want e = ap (λ r. option_map Some (fault_in r)) e

pub one_told : {B : Type 0} (e : ConstraintFault) (t : Option ConstraintFault) (want : Result B Fault) → option_map fault_of t ≡ Some (fault_of e) → is_some (fault_of e) ≡ true → Refused (fault_of e) want → option_map fault_of t ≡ option_map Some (fault_in want)
one_told e t want h k r = h ∙ seen (fault_of e) want k r

pub missing_told : (needed : Bool) (want : Result (Option Ranges) Fault) → Ok None ≡ want → option_map Some (size_fault needed (Ok None)) ≡ option_map Some (size_fault needed want)
missing_told needed want e = ap (λ r. option_map Some (size_fault needed r)) e

pub sized_told : (needed : Bool) (s : Ranges) (want : Result (Option Ranges) Fault) → Ok (Some s) ≡ want → None ≡ option_map Some (size_fault needed want)
sized_told needed s want e = ap (λ r. option_map Some (size_fault needed r)) e

pub size_told : (needed : Bool) (e : ConstraintFault) (t : Option ConstraintFault) (want : Result (Option Ranges) Fault) → option_map fault_of t ≡ Some (fault_of e) → is_some (fault_of e) ≡ true → Refused (fault_of e) want → option_map fault_of t ≡ option_map Some (size_fault needed want)
size_told needed e t want h k r = h ∙ seen_size needed (fault_of e) want k r
