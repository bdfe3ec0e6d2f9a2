-- What the program's own types stand for.
use Rattle.acn_num.specs.Names.{Name}
use Rattle.acn_enum_values.specs.declared.items.EnumFault.{EnumFault}

abbrev pub fault_view : EnumFault → Name × Name
fault_view t = (t.first.now, t.second.now)
