-- Which assignments a look-up means.
use Rattle.std.specs.Prelude.{ℕ, Bool, List}
use Rattle.acn_asn_syntax.specs.Mirror.{Assign}
use Rattle.acn_num.specs.Names.{Name}
use Rattle.acn_index.specs.Lookup.{is_type, is_value, is_named}
use Rattle.acn_index.specs.declared.lookup.Sort.{Sort}
use Rattle.acn_index.specs.declared.lookup.Sort.TheVariants.{Types, Values, Any}
use Rattle.acn_index.specs.declared.maps.OwnNames.{OwnNames}

abbrev pub meant : Sort → Name → Assign → Bool
meant Types name a = is_type name a
meant Values name a = is_value name a
meant Any name a = is_named name a

-- the first places of the names of a sort
abbrev pub sorted : Sort → OwnNames → List (Name × ℕ)
sorted Types own = own.types
sorted Values own = own.values
sorted Any own = own.names
