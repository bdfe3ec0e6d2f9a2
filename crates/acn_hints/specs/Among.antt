-- Names among names.
use Rattle.std.specs.Prelude.{Bool, List, map}
use Rattle.std.specs.List.{list_any}
use Rattle.std.specs.Str.{bytes_eq}
use Rattle.acn_num.specs.Names.{Name}

-- whether one of these has this name
abbrev pub is_named : {T : Type 0} → (T → Name) → Name → List T → Bool
is_named name_of name all = list_any (bytes_eq name) (map name_of all)
