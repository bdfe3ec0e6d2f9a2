-- What a tree of the program stands for.
use Rattle.std.specs.Prelude.{List, [], ◌∷◌, Option, Some, None, option_map, map}
use Rattle.acn_acn_syntax.specs.Mirror.{Field, Braces, Fields, plain, inserted, number, no_braces, braces, no_fields, and_field, Entry, Module}
use Rattle.acn_acn_syntax.specs.declared.modules.AcnField.{AcnField, fold-AcnField}
use Rattle.acn_acn_syntax.specs.declared.modules.AcnField.TheOpen.{AcnField-F}
use Rattle.acn_acn_syntax.specs.declared.modules.AcnEntry.{AcnEntry}
use Rattle.acn_acn_syntax.specs.declared.modules.AcnModule.{AcnModule}
use Rattle.acn_acn_syntax.specs.declared.modules.AcnModules.{AcnModules}

abbrev pub fields_of : List Field → Fields
fields_of [] = no_fields
fields_of (f ∷ fs) = and_field f (fields_of fs)

abbrev pub braces_of : Option (List Field) → Braces
braces_of None = no_braces
braces_of (Some fs) = braces (fields_of fs)

-- one level, with each field inside already seen as its data
abbrev pub field_step : AcnField-F Field → Field
field_step (AcnField-F.Plain name arguments attributes fields) = plain name arguments attributes (braces_of fields)
field_step (AcnField-F.Inserted name kind attributes) = inserted name kind attributes
field_step (AcnField-F.Number name n) = number name n

unfoldable pub field_of : AcnField → Field
field_of = fold-AcnField Field field_step

-- the fields of a list, in its order
abbrev pub fields_view : List AcnField → Fields
fields_view fs = fields_of (map field_of fs)

abbrev pub braces_view : Option (List AcnField) → Braces
braces_view fs = braces_of (option_map (map field_of) fs)

abbrev pub entry_of : AcnEntry → Entry
entry_of e = record { name = e.name; parameters = e.parameters; attributes = e.attributes; fields = braces_view e.fields }

abbrev pub module_of : AcnModule → Module
module_of m = record { name = m.name; entries = map entry_of m.entries }

abbrev pub modules_of : AcnModules → List Module
modules_of ms = map module_of ms.modules
