-- The pattern that ends a number, a text or a list. (This profile's own.)
use Rattle.std.specs.Prelude.{Bool, false, List, [], ◌∷◌, Option, Some, None, if◌then◌else◌}
use Rattle.acn_reasons.specs.Classes.{size_attr, is_ended}
use Rattle.acn_sites.specs.Sites.{Site}
use Rattle.acn_sites.specs.declared.attributes.AttrKind.TheVariants as kind
use Rattle.acn_written.specs.Patterns.{pattern_attr, bits_given}

abbrev pub zero_octet : List Bool
zero_octet = false ∷ false ∷ false ∷ false ∷ false ∷ false ∷ false ∷ false ∷ []

abbrev pub or_zero_octet : Option (List Bool) → List Bool
or_zero_octet None = zero_octet
or_zero_octet (Some end) = end

-- the one that is given, or else an octet of zeros
abbrev pub end_of : Site → List Bool
end_of s = or_zero_octet (bits_given (pattern_attr kind.TerminationPattern s))

-- where `size null-terminated` says that there is one
abbrev pub ended_by : Site → Option (List Bool)
ended_by s = if is_ended (size_attr s) then Some (end_of s) else None
