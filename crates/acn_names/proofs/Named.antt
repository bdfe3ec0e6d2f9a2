-- An assignment has a name, and its module too.
use Rattle.std.proofs.Common.{◌≡◌, Option, Some, None, refl, sym, ap, ◌∙◌}
use Rattle.std.specs.Prelude.{option_map, option_copied, option_and_then, slice_get, IsSome}
use Rattle.std.specs.Borrow.{Bor}
use Rattle.acn_asn_syntax.specs.Mirror.{AsnModule, Assign}
use Rattle.acn_num.specs.Names.{Name}
use Rattle.acn_index.specs.World.{World, name_of, assignment}
use Rattle.acn_world.specs.Faults.{module_name_at, name_at}
use Rattle.acn_index.specs.declared.sources.TypeId.{TypeId}

mapped_some : {A B : Type 0} (f : A → B) (o : Option A) → IsSome o → IsSome (option_map f o)
mapped_some f None h = h
mapped_some f (Some x) h = refl

outer_some : {A B : Type 0} (f : A → Option B) (o : Option A) → IsSome (option_and_then f o) → IsSome o
outer_some f None h = h
outer_some f (Some x) h = refl

pub own_there : (w : World) (p : TypeId) → IsSome (assignment w p) → IsSome (name_at w p)
own_there w p h = mapped_some name_of (assignment w p) h

pub owner_there : (w : World) (p : TypeId) → IsSome (assignment w p) → IsSome (module_name_at w p)
unfolding assignment
owner_there w p h = mapped_some (λ (m : AsnModule). m.name) (slice_get w.modules p.module) (outer_some (λ (m : AsnModule). slice_get m.items p.item) (slice_get w.modules p.module) h)
