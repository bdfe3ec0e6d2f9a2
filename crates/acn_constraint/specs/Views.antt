-- What the program's own types stand for.
use Rattle.std.specs.Prelude.{◌≡◌, Option, Some, None, Result, Ok, Err}
use Rattle.acn_constraint.specs.Constraints as spec
use Rattle.acn_constraint.specs.declared.fault.ConstraintFault.{ConstraintFault}
use Rattle.acn_constraint.specs.declared.fault.ConstraintFault.TheVariants as fault
use Rattle.acn_constraint.specs.declared.ends.OpenSet.{OpenSet}
use Rattle.acn_constraint.specs.declared.ends.TextSets.{TextSets}

-- want of memory says nothing of the constraints
abbrev pub fault_of : ConstraintFault → Option spec.Fault
fault_of fault.Empty = Some spec.empty
fault_of fault.Unbounded = Some spec.unbounded
fault_of (fault.TooWide x) = Some (spec.too_wide x)
fault_of (fault.SizeLimit n) = Some (spec.size_limit n)
fault_of fault.NotHere = Some spec.not_here
fault_of fault.NoMemory = None

abbrev pub opened_of : OpenSet → spec.Opened
opened_of s = record { numbers = s.numbers; open_below = s.open_below; open_above = s.open_above }

abbrev pub texts_of : TextSets → spec.Texts
texts_of s = record { sizes = s.sizes; characters = s.characters }

abbrev pub Refused : {B : Type 0} → Option spec.Fault → Result B spec.Fault → Type 0
Refused None want = Unit {0}
Refused (Some f) want = Err f ≡ want

-- The answer is the one that is defined, or memory ran out.
abbrev pub Answers : {A B : Type 0} → (A → B) → Result A ConstraintFault → Result B spec.Fault → Type 0
Answers view (Ok x) want = Ok (view x) ≡ want
Answers view (Err e) want = Refused (fault_of e) want
