-- What a file holds, by the end of its name.
use Rattle.std.specs.Prelude.{ℕ, Bool, ◌||◌, ◌-◌, if◌then◌else◌, List, length, drop, Option, Some, None, codes}
use Rattle.std.specs.Str.{bytes_eq}
use Rattle.acn_sources.specs.declared.kind.FileKind.{FileKind}
use Rattle.acn_sources.specs.declared.kind.FileKind.TheVariants.{Asn, Acn, Map}

-- these bytes end the name
abbrev pub ends_with : List ℕ → List ℕ → Bool
ends_with end name = bytes_eq (drop (length name - length end) name) end

abbrev pub kind_of_name : List ℕ → Option FileKind
kind_of_name name =
    if ends_with (codes ".asn") name || ends_with (codes ".asn1") name then Some Asn
    else (if ends_with (codes ".acn") name then Some Acn
    else (if ends_with (codes ".map") name then Some Map else None))
