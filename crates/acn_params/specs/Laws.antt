-- A path leads where the merge takes it, which follows it through the sources (Slots of acn_slots). These rules are this profile's own.
use Rattle.std.specs.Prelude.{◌≡◌, ◌≤◌, ◌++◌, ℕ, zero, suc, Bool, List, [], ◌∷◌, length, map, filter_map, Option, Some, None, option_map, Result, Ok, Err}
use Rattle.acn_num.specs.Names.{Name}
use Rattle.acn_asn_syntax.specs.Mirror.{Component}
use Rattle.acn_acn_syntax.specs.Mirror as acn
use Rattle.acn_index.specs.World.{World}
use Rattle.acn_slots.specs.Slots.{Frame, Scope, Step, step_at, name_in_text, leads}
use Rattle.acn_slots.specs.declared.slots.Slot.{Slot}
use Rattle.acn_slots.specs.declared.slots.Lead.{Lead}
use Rattle.acn_slots.specs.declared.slots.Lead.TheVariants as lead
use Rattle.acn_params.specs.Paths.{Field, slot, inner, other, slot_at}
use Rattle.acn_params.specs.View.{fields_of}
use Rattle.acn_params.specs.declared.scope.ParamFault.{ParamFault}
use Rattle.acn_params.specs.declared.scope.ParamFault.TheVariants.{UnknownPath, DeterminantMayBeAbsent}

-- ---- the fields of a SEQUENCE of the sources

abbrev pub names_among : List Component → Option (List acn.Field) → List Name
names_among cs None = map (λ (c : Component). c.name) cs
names_among cs (Some fs) = map name_in_text fs

-- the names that stand between its braces, or those of its components where it has none
abbrev pub names_in : Frame → List Name
names_in f = names_among f.components f.braces

abbrev pub field_without_slot : Name → (optional : Bool) → Option (List Field) → Field
field_without_slot name optional None = other name
field_without_slot name optional (Some fields) = inner name (fields_of fields) optional

abbrev pub field_with : (Slot → ℕ) → Name → (optional : Bool) → Option Slot → Option (List Field) → Field
field_with number name optional (Some s) inside = slot name (number s) optional
field_with number name optional None inside = field_without_slot name optional inside

-- a determinant has the number of its slot, and a SEQUENCE the fields inside it
abbrev pub field_by : (Slot → ℕ) → (Frame → List Field) → Name → Step → Field
field_by number inside name s = field_with number name s.optional s.slot (option_map inside s.inside)

-- its fields, and those of the SEQUENCEs inside it down to a depth
abbrev pub fields_down : World → (Slot → ℕ) → (deep : ℕ) → Frame → List Field
fields_down w number zero f = []
fields_down w number (suc deep) f = filter_map (λ name. option_map (field_by number (fields_down w number deep) name) (step_at w f name)) (names_in f)

-- ---- what is entered, and what is answered

-- a SEQUENCE is entered behind those around it
abbrev pub entered : (Frame → List Field) → List Frame → List (List Field)
entered fields [] = []
entered fields (f ∷ fs) = entered fields fs ++ fields f ∷ []

abbrev pub numbered : (Slot → ℕ) → List (Name × Slot) → List (Name × ℕ)
numbered number bound = map (λ (b : Name × Slot). (b.0, number b.1)) bound

abbrev pub answered : (Slot → ℕ) → Lead → Result ℕ ParamFault
answered number (lead.Slot s) = Ok (number s)
answered number lead.Nowhere = Err UnknownPath
answered number (lead.Absent through x) = Err (DeterminantMayBeAbsent through)

-- ---- the law

-- Whatever the numbers of slots are: where the SEQUENCEs around a place are entered with their fields, as deep as the path has names, and the
-- parameters there are bound, `slot_of` answers where `leads` leads.
abbrev pub PathsLeadWhereTheMergeTakesThem : Type 0
PathsLeadWhereTheMergeTakesThem = (w : World) (number : Slot → ℕ) (s : Scope) (names : List Name) (deep : ℕ) → length names ≤ deep
    → slot_at (entered (fields_down w number deep) s.frames) (numbered number s.bound) names ≡ answered number (leads w s names)
