-- A value that was found, as plain data.
use Rattle.acn_asn_syntax.specs.View.{type_view}
use Rattle.acn_index.specs.Values as spec
use Rattle.acn_index.specs.declared.values.Worth.{Worth}

abbrev pub found_view : Worth → spec.Worth
found_view x = record { owner = x.owner; of = type_view x.of.now; is = x.is.now }
