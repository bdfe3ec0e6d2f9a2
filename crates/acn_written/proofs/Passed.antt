-- Faults of constraints that are passed over.
use Rattle.std.proofs.Common.{◌≡◌, true, Option, Some, None, [], ap}
use Rattle.std.specs.Prelude.{Result, Ok, Err, is_some}
use Rattle.acn_num.specs.Ranges.{Ranges}
use Rattle.acn_constraint.specs.Constraints.{Fault, Opened}
use Rattle.acn_constraint.specs.Views.{fault_of, Refused}
use Rattle.acn_constraint.specs.declared.fault.ConstraintFault.{ConstraintFault}
use Rattle.acn_written.specs.Numbers.{if_left}
use Rattle.acn_written.specs.Sizes.{if_sized, if_characters}

err : {A : Type 0} (o : Option Fault) (want : Result A Fault) → is_some o ≡ true → Refused o want → (f : Fault) × (Err f ≡ want)
err None want h r = absurd (cc h)
err (Some f) want h r = (f, r)

pub set_left : (s : Opened) (want : Result Opened Fault) → Ok s ≡ want → Some s ≡ if_left want
set_left s want e = ap if_left e

pub no_set : (e : ConstraintFault) (want : Result Opened Fault) → is_some (fault_of e) ≡ true → Refused (fault_of e) want → None ≡ if_left want
no_set e want h r = (let p = err (fault_of e) want h r in ap if_left p.1)

pub sizes_left : (s : Option Ranges) (want : Result (Option Ranges) Fault) → Ok s ≡ want → s ≡ if_sized want
sizes_left s want e = ap if_sized e

pub no_sizes : (e : ConstraintFault) (want : Result (Option Ranges) Fault) → is_some (fault_of e) ≡ true → Refused (fault_of e) want → None ≡ if_sized want
no_sizes e want h r = (let p = err (fault_of e) want h r in ap if_sized p.1)

pub characters_left : (s : Ranges) (want : Result Ranges Fault) → Ok s ≡ want → s ≡ if_characters want
characters_left s want e = ap if_characters e

pub no_characters : (e : ConstraintFault) (want : Result Ranges Fault) → is_some (fault_of e) ≡ true → Refused (fault_of e) want → [] ≡ if_characters want
no_characters e want h r = (let p = err (fault_of e) want h r in ap if_characters p.1)
