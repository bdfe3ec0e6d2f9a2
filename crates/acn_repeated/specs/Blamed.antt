-- Faults in the program as plain data.
use Rattle.std.specs.Prelude.{List, map}
use Rattle.acn_num.specs.Names.{Name}
use Rattle.acn_world.specs.declared.fault.NameFault.{NameFault}
use Rattle.acn_world.specs.declared.fault.NameFault.TheVariants as fault
use Rattle.acn_repeated.specs.declared.blame.Blame.{Blame}
use Rattle.acn_repeated.specs.declared.blame.Kind.{Kind}
use Rattle.acn_repeated.specs.declared.blame.Kind.TheVariants as kind

abbrev pub fault_of : Kind → Name → Name → NameFault
fault_of kind.Unknown owner name = fault.Unknown owner name
fault_of kind.Repeated owner name = fault.Repeated owner name
fault_of kind.NoModule owner name = fault.NoModule owner name
fault_of kind.WrongKind owner name = fault.WrongKind owner name

abbrev pub blame_view : Blame → NameFault
blame_view b = fault_of b.kind b.owner.now b.name.now

abbrev pub blames_view : List Blame → List NameFault
blames_view bs = map blame_view bs
