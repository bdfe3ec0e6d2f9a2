-- What a field of the program stands for. Nobody need read it.
use Rattle.std.specs.Prelude.{ℕ, List, [], ◌∷◌, map}
use Rattle.acn_params.specs.Paths.{Field, Fields, slot, inner, other, no_fields, and_field}
use Rattle.acn_params.specs.declared.scope.ScopeField.{ScopeField, fold-ScopeField}
use Rattle.acn_params.specs.declared.scope.ScopeField.TheOpen.{ScopeField-F}

abbrev pub fields_of : List Field → Fields
fields_of [] = no_fields
fields_of (f ∷ fs) = and_field f (fields_of fs)

-- one level, with each field inside already seen as its data
abbrev pub field_step : ScopeField-F Field → Field
field_step (ScopeField-F.Slot name number optional) = slot name number optional
field_step (ScopeField-F.Inner name fields optional) = inner name (fields_of fields) optional
field_step (ScopeField-F.Other name) = other name

unfoldable pub field_of : ScopeField → Field
field_of = fold-ScopeField Field field_step

abbrev pub fields_view : List ScopeField → List Field
fields_view = map field_of
