-- The fault of what reaches itself.
use Rattle.std.specs.Prelude.{◌≡◌, List, Some}
use Rattle.acn_num.specs.Names.{Name}
use Rattle.acn_index.specs.World.{World}
use Rattle.acn_world.specs.Faults.{module_name_at, name_at, names_at}
use Rattle.acn_index.specs.declared.sources.TypeId.{TypeId}
use Rattle.acn_world.specs.declared.fault.NameFault.{NameFault}
use Rattle.acn_world.specs.declared.fault.NameFault.TheVariants as fault

-- it has the names of the first assignment, of its module, and of those on the way
pub record IsCycleFault (w : World) (p : TypeId) (way : List TypeId) (f : NameFault) : Type 0 where
  pub owner : Name
  pub name : Name
  pub of_module : module_name_at w p ≡ Some owner
  pub own : name_at w p ≡ Some name
  pub is : f ≡ fault.Cycle owner name (names_at w way)
