-- What the program's own types stand for.
use Rattle.std.specs.Prelude.{ℕ, List, Option, Some, None, option_map, Result, Ok, Err, ◌≡◌, IsTrue, is_some}
use Rattle.acn_constraint.specs.Views.{fault_of}
use Rattle.acn_survey.specs.declared.reason.MergeReason.{MergeReason}
use Rattle.acn_survey.specs.declared.reason.MergeReason.TheVariants as reason
use Rattle.acn_survey.specs.declared.reason.Refused.{Refused}
use Rattle.acn_survey.specs.declared.reason.MergeFault.{MergeFault}
use Rattle.acn_survey.specs.declared.reason.MergeFault.TheVariants as fault
use Rattle.acn_survey.specs.declared.visits.Walk.{Walk}
use Rattle.acn_survey.specs.Reasons as spec
use Rattle.acn_survey.specs.Seen as seen

-- want of memory is no fault of constraints
abbrev pub reason_of : MergeReason → Option spec.Reason
reason_of reason.TooDeep = Some spec.too_deep
reason_of reason.TooManyNodes = Some spec.too_many_nodes
reason_of (reason.RepeatedAttribute k) = Some (spec.repeated k)
reason_of (reason.AttributeNotHere k) = Some (spec.not_here k)
reason_of (reason.Constraint f) = option_map spec.constraint (fault_of f)
reason_of reason.NoSuchField = Some spec.no_such_field
reason_of reason.Arguments = Some spec.arguments
reason_of (reason.Path f) = Some (spec.path f)
reason_of (reason.BadMapping key) = Some (spec.mapping key)
reason_of (reason.EnumValues first second) = Some (spec.item_numbers (first, second))
reason_of reason.PatternClash = Some spec.patterns
reason_of reason.BadSize = Some spec.size
reason_of reason.EndianSize = Some spec.endianness
reason_of (reason.TooNarrow value) = Some (spec.narrow value)
reason_of reason.BadDefault = Some spec.default_value

abbrev pub fault_with : List ℕ → spec.Reason → spec.Fault
fault_with place r = record { place = place; reason = r }

abbrev pub fault_of_site : Refused → Option spec.Fault
fault_of_site f = option_map (fault_with f.place) (reason_of f.reason)

-- a refusal is this fault, and there is one; want of memory is free
abbrev pub Tells : Option spec.Fault → MergeFault → Type 0
Tells want (fault.At f) = IsTrue (is_some want) × (fault_of_site f ≡ want)
Tells want fault.NoMemory = Unit {0}

abbrev pub noted_of : Walk → seen.Noted
noted_of n = record { next = n.next; fields = n.fields; uses = n.uses }

-- what a walk answers: it goes on with what was noted, or stops at a fault
abbrev pub answer : Option Refused → seen.Noted → Option (Result seen.Noted spec.Fault)
answer None n = Some (Ok n)
answer (Some f) n = option_map Err (fault_of_site f)
