-- Which slot a path leads to. These rules are this profile's own.
use Rattle.std.specs.Prelude.{◌≡◌, ◌++◌, ℕ, suc, Bool, true, false, if◌then◌else◌, List, [], ◌∷◌, Option, Some, None, option_map, option_and_then, find, Result, Ok, Err}
use Rattle.std.specs.List.{list_any}
use Rattle.std.specs.Option.{option_or}
use Rattle.std.specs.Str.{bytes_eq}
use Rattle.acn_params.specs.declared.scope.ParamFault.{ParamFault}
use Rattle.acn_params.specs.declared.scope.ParamFault.TheVariants.{UnknownPath, DeterminantMayBeAbsent}

mutual
  -- a field of a SEQUENCE: a determinant with its slot, a SEQUENCE with its fields, or another
  pub data Field : Type 0 where
    slot : (name : List ℕ) → (number : ℕ) → (optional : Bool) → Field
    inner : (name : List ℕ) → Fields → (optional : Bool) → Field
    other : (name : List ℕ) → Field

  pub data Fields : Type 0 where
    no_fields : Fields
    and_field : Field → Fields → Fields

abbrev pub field_list : Fields → List Field
field_list no_fields = []
field_list (and_field f fs) = f ∷ field_list fs

abbrev pub name_of : Field → List ℕ
name_of (slot name _ _) = name
name_of (inner name _ _) = name
name_of (other name) = name

abbrev pub is_optional : Field → Bool
is_optional (slot _ _ optional) = optional
is_optional (inner _ _ optional) = optional
is_optional (other _) = false

-- the fields inside, where it is a SEQUENCE
abbrev pub inside : Field → List Field
inside (inner _ fields _) = field_list fields
inside _ = []

abbrev pub is_named : List ℕ → Field → Bool
is_named name field = bytes_eq (name_of field) name

-- The fields to which the names lead, one behind the other, each inside the one before. A SEQUENCE has no other insides.
abbrev pub along : List Field → List (List ℕ) → Option (List Field)
along fs [] = Some []
along fs (name ∷ names) = option_and_then (λ f. option_map (λ more. f ∷ more) (along (inside f) names)) (find (is_named name) fs)

-- the slot of a determinant
abbrev pub slot_of_field : Field → Option ℕ
slot_of_field (slot _ number _) = Some number
slot_of_field (inner _ _ _) = None
slot_of_field (other _) = None

abbrev pub slot_of_last : List Field → Option ℕ
slot_of_last [] = None
slot_of_last (f ∷ []) = slot_of_field f
slot_of_last (f ∷ g ∷ fs) = slot_of_last (g ∷ fs)

-- the slot, unless a field on the way may be absent: then how many names lead up to the first such
abbrev pub unless_absent : ℕ → Option ℕ → Result ℕ ParamFault
unless_absent number None = Ok number
unless_absent number (Some through) = Err (DeterminantMayBeAbsent through)

abbrev pub answer : Option ℕ → Option ℕ → Result ℕ ParamFault
answer None absent = Err UnknownPath
answer (Some number) absent = unless_absent number absent

-- how many fields there are up to the first that may be absent
abbrev pub up_to_absent : List Field → Option ℕ
up_to_absent [] = None
up_to_absent (f ∷ fs) = if is_optional f then Some 1 else option_map suc (up_to_absent fs)

abbrev pub judged : Option (List Field) → Result ℕ ParamFault
judged None = Err UnknownPath
judged (Some fields) = answer (slot_of_last fields) (up_to_absent fields)

abbrev pub has_name : List ℕ → List Field → Bool
has_name name fields = list_any (is_named name) fields

-- the last of these SEQUENCEs that has a field of this name
abbrev pub last_with : List ℕ → List (List Field) → Option (List Field)
last_with name [] = None
last_with name (fields ∷ more) = option_or (last_with name more) (if has_name name fields then Some fields else None)

-- the slot to which a parameter of this name is bound
abbrev pub bound_to : List (List ℕ × ℕ) → List ℕ → Option ℕ
bound_to bound name = option_map (λ parameter. parameter.1) (find (λ parameter. bytes_eq parameter.0 name) bound)

abbrev pub or_unknown : Option ℕ → Result ℕ ParamFault
or_unknown None = Err UnknownPath
or_unknown (Some number) = Ok number

-- a parameter is one name alone
abbrev pub by_parameter : List (List ℕ × ℕ) → List (List ℕ) → Result ℕ ParamFault
by_parameter bound [] = Err UnknownPath
by_parameter bound (name ∷ []) = or_unknown (bound_to bound name)
by_parameter bound (name ∷ more ∷ names) = Err UnknownPath

-- through the fields of a SEQUENCE, where one has the first name, else by a parameter
abbrev pub by_fields : Option (List Field) → List (List ℕ × ℕ) → List (List ℕ) → Result ℕ ParamFault
by_fields None bound names = by_parameter bound names
by_fields (Some fields) bound names = judged (along fields names)

-- The first name is looked up in the SEQUENCE that was entered last of those that have it, then among the bound parameters.
abbrev pub slot_at : List (List Field) → List (List ℕ × ℕ) → List (List ℕ) → Result ℕ ParamFault
slot_at entered bound [] = Err UnknownPath
slot_at entered bound (name ∷ names) = by_fields (last_with name entered) bound (name ∷ names)

-- the SEQUENCE that was entered last is left
abbrev pub IsLeft : {A : Type 0} → List A → List A → Type 0
IsLeft {A} before after = (last : A) × (before ≡ after ++ last ∷ [])

-- how many names lead up to the first field that may be absent, when one field more is passed
abbrev pub first_absent : Option ℕ → ℕ → Field → Option ℕ
first_absent (Some through) passed f = Some through
first_absent None passed f = if is_optional f then Some (suc passed) else None
